-- What an asking call does, for the sheet as it is and under every book for which the sheet stands.
use Rattle.std.specs.Prelude.{◌≡◌, ℕ, ◌<◌, [], ◌∷◌, ◌++◌, length, IfOk, Ok, Err, Option, Result, MatchResult}
use Rattle.model.specs.declared.number_set.NumberSet.{NumberSet}
use Rattle.model.specs.declared.refusal.Refusal.{Refusal}
use Rattle.model.specs.Refusals.{refusal}
use Rattle.model.specs.Relations.{Exactly}
use Rattle.model.specs.Sets.{Has}
use Rattle.logic.specs.Formulas.{Formula}
use Rattle.sheet.specs.declared.sheet.Sheet.{Sheet}
use Rattle.sheet.specs.declared.question.Form.{Form}
use Rattle.sheet.specs.Orders.{at, Added}
use Rattle.sheet.specs.Books.{Book, formula, model_of, Marks, Stands}

-- the new sheet is the old one with a question more: of this form, and marking exactly the states of M
pub record Asks (old new : Sheet) (form : Form) (M : ℕ → Type 0) : Type 0 where
  pub marks : NumberSet
  pub exact : Exactly (Has marks) M
  pub added : Added old.questions.items new.questions.items (record { form = form; marks = marks })
  pub model : model_of new ≡ model_of old

-- the book that an asking call leaves: its formula at the end, unless it is refused
abbrev pub book_after : Result ℕ Refusal → Book → Formula → Book
book_after (Ok n) book f = book ++ f ∷ []
book_after (Err e) book f = book

-- the call is right under a book: refused by the number of its formulas, answering the new question's number, and the sheet
-- then stands under the book that the call leaves
pub record Right (old new : Sheet) (Cause : ℕ → Option ℕ → Type 0) (f : Book → Formula) (r : Result ℕ Refusal) (book : Book) : Type 0 where
  pub refused : Cause (length book) (refusal r)
  pub number : IfOk r (λ n. n ≡ length book)
  pub leaves : Stands (book_after r book (f book)) new

-- an asking call: its causes, its form, the states that it marks by its parts' marks, and its formula under a book
pub record Asked (old new : Sheet) (Cause : ℕ → Option ℕ → Type 0) (form : Form) (M : ℕ → Type 0) (f : Book → Formula) (r : Result ℕ Refusal) : Type 0 where
  pub cause : Cause (length old.questions.items) (refusal r)
  pub done : MatchResult r (λ n. (n ≡ length old.questions.items) × Asks old new form M) (λ _. new ≡ old)
  pub right : (book : Book) → Stands book old → Right old new Cause f r book

-- an accepted marks call answers the marks of question q
pub record MarksRead (sheet : Sheet) (q : ℕ) (x : NumberSet) : Type 0 where
  pub value : x ≡ (at sheet.questions.items q).marks
  pub right : (book : Book) → Stands book sheet → (q < length book) × Marks (model_of sheet) (formula book q) x
