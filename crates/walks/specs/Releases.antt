-- Releases seen from a pair of a state s and a watcher state q. F frees, K is kept, and t is the watcher's table.
use Rattle.std.specs.Prelude.{◌≡◌, ℕ, zero, suc, true, ◌⊎◌}
use Rattle.model.specs.declared.edge.Step.{Step}
use Rattle.model.specs.declared.model.Model.{Model}
use Rattle.model.specs.Models.{HasEdge}
use Rattle.language.specs.Words.{Word}
use Rattle.language.specs.Tables.{Table, step, run}
use Rattle.logic.specs.Paths.{edge}

-- the words whose run from q ends in a marked state
abbrev pub MarkedFrom : Table → ℕ → Word → Type 0
MarkedFrom t q w = t.marked (run t q w) ≡ true

-- F does not hold here, some edge leads on, and each leads to D
abbrev pub Forced : Model → Table → (ℕ → Type 0) → (ℕ → ℕ → Type 0) → ℕ → ℕ → Type 0
Forced m t F D s q = (F s → ⊥) × ((x : Step) × HasEdge m (edge s x)) × ((x : Step) → HasEdge m (edge s x) → D x.state (step t q x.action))

-- marked and not kept here
abbrev pub Bad : Table → (ℕ → Type 0) → ℕ → ℕ → Type 0
Bad t K s q = (t.marked q ≡ true) × (K s → ⊥)

-- every maximal path from here breaks the release at a moment before h
abbrev pub DoomedWithin : Model → Table → (ℕ → Type 0) → (ℕ → Type 0) → ℕ → ℕ → ℕ → Type 0
DoomedWithin m t F K zero s q = ⊥
DoomedWithin m t F K (suc h) s q = Bad t K s q ⊎ Forced m t F (DoomedWithin m t F K h) s q
