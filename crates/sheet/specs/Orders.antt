-- What the type of a sheet says of its questions.
use Rattle.std.specs.Prelude.{◌≡◌, ℕ, ◌<◌, ◌⊎◌, List, [], ◌∷◌, ◌++◌, length, slice_index_or}
use Rattle.model.specs.declared.number_set.NumberSet.{NumberSet}
use Rattle.model.specs.Sets.{Has}
use Rattle.sheet.specs.Questions.{unasked}
use Rattle.sheet.specs.declared.question.Question.{Question}
use Rattle.sheet.specs.declared.question.Form.{Form}
use Rattle.sheet.specs.declared.question.Form.TheVariants.{Proposition, Not, Or, Until, Release}

-- question number k
abbrev pub at : List Question → ℕ → Question
at qs k = slice_index_or qs k unasked

-- x are the marks of questions a and b
abbrev pub MarksOf : List Question → ℕ → ℕ → NumberSet × NumberSet → Type 0
MarksOf qs a b x = x ≡ ((at qs a).marks, (at qs b).marks)

-- p is the number of a part of a form
abbrev pub Part : Form → ℕ → Type 0
Part (Proposition n) p = ⊥
Part (Not a) p = p ≡ a
Part (Or a b) p = (p ≡ a) ⊎ (p ≡ b)
Part (Until a b) p = (p ≡ a) ⊎ (p ≡ b)
Part (Release a b) p = (p ≡ a) ⊎ (p ≡ b)

-- each part has a lower number
abbrev pub PartsLower : List Question → Type 0
PartsLower qs = (k p : ℕ) → k < length qs → Part (at qs k).form p → p < k

-- a state that a question marks is below n
abbrev pub MarksWithin : ℕ → List Question → Type 0
MarksWithin n qs = (k s : ℕ) → k < length qs → Has (at qs k).marks s → s < n

-- the questions after are those before with the question x at their end
abbrev pub Added : List Question → List Question → Question → Type 0
Added before after x = after ≡ before ++ x ∷ []
