-- Facts: a symbol, a from-state and a to-state, where the symbol derives the word of a guarded path between the two.
use Rattle.std.specs.Prelude.{◌≡◌, List, [], ◌∷◌, ◌⊎◌, ℕ, ◌<◌, ◌≤◌}
use Rattle.model.specs.declared.edge.Step.{Step}
use Rattle.model.specs.declared.model.Model.{Model}
use Rattle.model.specs.declared.number_set.NumberSet.{NumberSet}
use Rattle.model.specs.Models.{HasEdge}
use Rattle.model.specs.Relations.{Triple}
use Rattle.model.specs.Sets.{Has}
use Rattle.language.specs.declared.rule.Rule.{Rule}
use Rattle.language.specs.Derivations.{Derives, DerivesWithin}
use Rattle.logic.specs.Paths.{edge, word}

-- a model with the states at which the guard holds
pub record Ground : Type 0 where
  pub model : Model
  pub guard : NumberSet

abbrev pub ground : Model → NumberSet → Ground
ground m g = record { model = m; guard = g }

-- a path of the model from s to t, with the guard at every state before its end
abbrev pub Guarded : Ground → ℕ → List Step → ℕ → Type 0
Guarded g s [] t = (s < g.model.states) × (s ≡ t)
Guarded g s (x ∷ p) t = Has g.guard s × HasEdge g.model (edge s x) × Guarded g x.state p t

-- some guarded path between the two states has a word that the symbol derives, by a tree of height at most h
abbrev pub FactWithin : Ground → List Rule → ℕ → Triple → Type 0
FactWithin g rules h f = (p : List Step) × Guarded g f.1 p f.2 × DerivesWithin rules h f.0 (word g.model p)

-- by a tree of any height
abbrev pub Fact : Ground → List Rule → Triple → Type 0
Fact g rules f = (p : List Step) × Guarded g f.1 p f.2 × Derives rules f.0 (word g.model p)

-- e is the least height at which the fact holds, and 0 where it never does
abbrev pub LeastHeight : Ground → List Rule → Triple → ℕ → Type 0
LeastHeight g rules f e = ((e ≡ 0) × (Fact g rules f → ⊥)) ⊎ ((1 ≤ e) × FactWithin g rules e f × ((j : ℕ) → j < e → FactWithin g rules j f → ⊥))
