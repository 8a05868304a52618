-- Formulas, and the states that satisfy them.
use Rattle.std.specs.Prelude.{List, ◌⊎◌, ℕ}
use Rattle.model.specs.declared.model.Model.{Model}
use Rattle.model.specs.Models.{Labelled}
use Rattle.language.specs.declared.rule.Rule.{Rule}
use Rattle.language.specs.Derivations.{Derives}
use Rattle.language.specs.Tables.{Table, Accepts}
use Rattle.logic.specs.Paths.{SomeGood}
use Rattle.logic.specs.Maximal.{SomeKeeps}

-- an until carries the rules of its language, a release the table of its watcher
pub data Formula : Type 0 where
  proposition : ℕ → Formula
  neg : Formula → Formula
  or : Formula → Formula → Formula
  until : Formula → Formula → List Rule → Formula
  release : Formula → Formula → Table → Formula

-- the state s of the model satisfies the formula
abbrev pub Sat : Model → Formula → ℕ → Type 0
Sat m (proposition p) s = Labelled m s p
Sat m (neg f) s = Sat m f s → ⊥
Sat m (or f g) s = Sat m f s ⊎ Sat m g s
Sat m (until guard goal rules) s = SomeGood m (λ t. Sat m guard t) (λ t. Sat m goal t) (Derives rules 0) s
Sat m (release freeing kept table) s = SomeKeeps m (λ t. Sat m freeing t) (λ t. Sat m kept t) (Accepts table) s
