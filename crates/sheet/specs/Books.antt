-- Books: the whole formulas of the questions asked so far, and what it means that a sheet stands under one.
use Rattle.std.specs.Prelude.{◌≡◌, ℕ, ◌<◌, List, length, slice_index_or}
use Rattle.model.specs.declared.model.Model.{Model}
use Rattle.model.specs.declared.number_set.NumberSet.{NumberSet}
use Rattle.model.specs.Sets.{Has}
use Rattle.language.specs.declared.rule.Rule.{Rule}
use Rattle.language.specs.Tables.{Table}
use Rattle.logic.specs.Formulas.{Formula, proposition, neg, or, until, release, Sat}
use Rattle.sheet.specs.declared.sheet.Sheet.{Sheet}
use Rattle.sheet.specs.declared.question.Form.{Form}
use Rattle.sheet.specs.declared.question.Form.TheVariants.{Proposition, Not, Or, Until, Release}
use Rattle.sheet.specs.Orders.{at}

abbrev pub Book : Type 0
Book = List Formula

-- formula number q of a book
abbrev pub formula : Book → ℕ → Formula
formula book q = slice_index_or book q (proposition 0)

abbrev pub model_of : Sheet → Model
model_of sheet = sheet.model.now

-- the set has exactly those of the model's states that satisfy the formula
abbrev pub Marks : Model → Formula → NumberSet → Type 0
Marks m f x = (s : ℕ) → s < m.states → (Has x s → Sat m f s) × (Sat m f s → Has x s)

-- a form, with the formulas of a book in place of the numbers of its parts, is the formula
abbrev pub Reads : Book → Form → Formula → Type 0
Reads book (Proposition p) f = f ≡ proposition p
Reads book (Not a) f = f ≡ neg (formula book a)
Reads book (Or a b) f = f ≡ or (formula book a) (formula book b)
Reads book (Until a b) f = (rules : List Rule) × (f ≡ until (formula book a) (formula book b) rules)
Reads book (Release a b) f = (t : Table) × (f ≡ release (formula book a) (formula book b) t)

-- as many questions as formulas; each has its formula's form, and marks exactly the states that satisfy it
pub record Stands (book : Book) (sheet : Sheet) : Type 0 where
  pub long : length book ≡ length sheet.questions.items
  pub right : (q : ℕ) → q < length sheet.questions.items → Marks (model_of sheet) (formula book q) (at sheet.questions.items q).marks
  pub shaped : (q : ℕ) → q < length sheet.questions.items → Reads book (at sheet.questions.items q).form (formula book q)
