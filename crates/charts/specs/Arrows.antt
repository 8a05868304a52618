-- Arrows: an action, a state and another state. They are kept as a set of triples.
use Rattle.std.specs.Prelude.{◌≡◌, ℕ, ◌<◌, ◌≤◌}
use Rattle.model.specs.declared.model.Model.{Model}
use Rattle.model.specs.Relations.{Exactly}
use Rattle.model.specs.Models.{HasEdge}
use Rattle.triples.specs.Triples.{Holds}
use Rattle.language.specs.Tables.{Table, step, Complete}
use Rattle.charts.specs.declared.charts.Charts.{Charts}

-- an edge leads by the action to the state from the other
abbrev pub Into : Model → ℕ × ℕ × ℕ → Type 0
Into m x = HasEdge m (record { from = x.2; action = x.0; to = x.1 })

-- an edge leads by the action from the state to the other
abbrev pub Out : Model → ℕ × ℕ × ℕ → Type 0
Out m x = HasEdge m (record { from = x.1; action = x.0; to = x.2 })

-- the table steps by the action to the watcher state from the other
abbrev pub Back : ℕ → Table → ℕ × ℕ × ℕ → Type 0
Back n t x = (x.2 < t.states) × (x.0 < n) × (step t x.2 x.0 ≡ x.1)

-- the same from one watcher state alone
abbrev pub BackFrom : ℕ → Table → ℕ → ℕ × ℕ × ℕ → Type 0
BackFrom n t q x = (x.2 ≡ q) × (x.0 < n) × (step t q x.0 ≡ x.1)

-- the charts show the edges of the model and the steps of the table, which is complete and not too large
pub record Charted (m : Model) (t : Table) (charts : Charts) : Type 0 where
  pub small : t.states ≤ 32
  pub whole : Complete m.actions t
  pub into : Exactly (Holds charts.into.rows) (Into m)
  pub out : Exactly (Holds charts.out.rows) (Out m)
  pub back : Exactly (Holds charts.back.rows) (Back m.actions t)
