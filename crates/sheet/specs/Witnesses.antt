-- What a path call answers, and what it leaves in the lent memory.
use Rattle.std.specs.Prelude.{◌≡◌, ℕ, ◌≤◌, ◌≢◌, List, length, take, drop, IfErr, Some, None, Option, Result, MatchResult}
use Rattle.model.specs.declared.edge.Step.{Step}
use Rattle.model.specs.declared.model.Model.{Model}
use Rattle.model.specs.declared.refusal.Refusal.{Refusal}
use Rattle.model.specs.Refusals.{number, refusal}
use Rattle.model.specs.Sets.{Has}
use Rattle.language.specs.Derivations.{Derives}
use Rattle.language.specs.Words.{Word}
use Rattle.logic.specs.Formulas.{Sat}
use Rattle.logic.specs.Paths.{Good}
use Rattle.sheet.specs.declared.sheet.Sheet.{Sheet}
use Rattle.sheet.specs.Orders.{at}
use Rattle.sheet.specs.Books.{Book, formula, model_of, Stands}
use Rattle.sheet.specs.Causes.{Told, CausePath}

-- none: no path is good, and the step list is as it was. n steps: the first n entries are a good path, no good path has
-- fewer steps, and the later entries are as they were
abbrev pub Shows : (List Step → Type 0) → List Step → List Step → Option ℕ → Type 0
Shows Good before after None = ((p : List Step) → Good p → ⊥) × (after ≡ before)
Shows Good before after (Some n) = (n ≤ length after) × Good (take n after) × ((p : List Step) → Good p → n ≤ length p) × (drop n after ≡ drop n before)

-- the paths from s that are good by the marks of two questions and a set of words
abbrev pub GoodByMarks : Sheet → ℕ → ℕ → (Word → Type 0) → ℕ → List Step → Type 0
GoodByMarks sheet guard goal W s p = Good (model_of sheet) (Has (at sheet.questions.items guard).marks) (Has (at sheet.questions.items goal).marks) W s p

-- the paths from s that are good by the formulas of two questions and a set of words
abbrev pub GoodByBook : Model → Book → ℕ → ℕ → (Word → Type 0) → ℕ → List Step → Type 0
GoodByBook m book guard goal W s p = Good m (λ t. Sat m (formula book guard) t) (λ t. Sat m (formula book goal) t) W s p

-- the answer of a path call for one account of the good paths
pub record Answered (m : Model) (l : Told) (work waiting : ℕ) (before after : List Step) (guard goal s : ℕ) (GoodPath : List Step → Type 0) (n : ℕ) (r : Result (Option ℕ) Refusal) : Type 0 where
  pub cause : CausePath m l work waiting (length before) guard goal s GoodPath n (refusal r)
  pub shows : MatchResult r (λ o. Shows GoodPath before after o) (λ _. after ≡ before)

-- a path call is right by the language's own words and the parts' marks, and by the whole formulas under every book
pub record Witnessed (sheet : Sheet) (l : Told) (W : Word → Type 0) (work waiting : ℕ) (before after : List Step) (guard goal s : ℕ) (r : Result (Option ℕ) Refusal) : Type 0 where
  pub marks : Answered (model_of sheet) l work waiting before after guard goal s (GoodByMarks sheet guard goal W s) (length sheet.questions.items) r
  pub books : (book : Book) → Stands book sheet → Answered (model_of sheet) l work waiting before after guard goal s (GoodByBook (model_of sheet) book guard goal (Derives l.rules 0) s) (length book) r

-- a refusal other than 24 leaves as it was what Same speaks of
abbrev pub Unless24 : {X : Type 0} → Result X Refusal → Type 0 → Type 0
Unless24 r Same = IfErr r (λ e. number e ≢ 24 → Same)
