-- What the calls on a draft do to the model that is being written, and when they are refused.
use Rattle.std.specs.Prelude.{◌≡◌, ℕ, ◌<◌, ◌≤◌, ◌≢◌, ◌⊎◌, [], ◌∷◌, ◌++◌, length, Option, slice_index_or}
use Rattle.model.specs.declared.edge.Edge.{Edge}
use Rattle.model.specs.declared.model.Model.{Model}
use Rattle.model.specs.Refusals.{Refuse, Accept}
use Rattle.model.specs.Sizes.{Outside}
use Rattle.model.specs.Relations.{Joined}
use Rattle.model.specs.Sets.{Has}
use Rattle.model.specs.Models.{edges_of, HasEdge, blank, propositions_of}

-- a model of the given sizes, with no edge and no proposition
pub record Bare (n a : ℕ) (m : Model) : Type 0 where
  pub states : m.states ≡ n
  pub actions : m.actions ≡ a
  pub edges : edges_of m ≡ []
  pub records : (s : ℕ) → slice_index_or m.records s blank ≡ blank

-- the model after is the one before with the edge at the end
pub record EdgeAdded (before after : Model) (e : Edge) : Type 0 where
  pub edges : edges_of after ≡ edges_of before ++ e ∷ []
  pub states : after.states ≡ before.states
  pub actions : after.actions ≡ before.actions
  pub records : after.records ≡ before.records

-- the model after is the one before with the proposition p at state s
pub record LabelAdded (before after : Model) (s p : ℕ) : Type 0 where
  pub here : Joined (Has (propositions_of before s)) (Has (propositions_of after s)) (λ t. t ≡ p)
  pub others : (k : ℕ) → k ≢ s → slice_index_or after.records k blank ≡ slice_index_or before.records k blank
  pub edges : edges_of after ≡ edges_of before
  pub states : after.states ≡ before.states
  pub actions : after.actions ≡ before.actions

-- the causes of each call, in order
abbrev pub CauseSize : ℕ → ℕ → Option ℕ → Type 0
CauseSize states actions = Refuse (Outside 1 32 states ⊎ Outside 1 16 actions) 4 Accept

abbrev pub CauseEdge : Model → Edge → Option ℕ → Type 0
CauseEdge m e =
    Refuse ((m.states ≤ e.from) ⊎ (m.states ≤ e.to)) 1
    (Refuse (m.actions ≤ e.action) 2
    (Refuse ((HasEdge m e → ⊥) × (256 ≤ length (edges_of m))) 23 Accept))

abbrev pub CauseLabel : Model → ℕ → ℕ → Option ℕ → Type 0
CauseLabel m s p = Refuse (m.states ≤ s) 1 (Refuse (31 < p) 3 Accept)

-- after an accepted edge: it is added at the end, or it was there and nothing changed
abbrev pub AfterEdge : Model → Model → Edge → Type 0
AfterEdge before after e = ((HasEdge before e) × (after ≡ before)) ⊎ ((HasEdge before e → ⊥) × EdgeAdded before after e)
