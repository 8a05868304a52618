-- Sets of pairs: a row of states for each watcher state. A pair is a state and a watcher state.
use Rattle.std.specs.Prelude.{◌≡◌, ℕ, List, slice_index_or}
use Rattle.model.specs.declared.number_set.NumberSet.{NumberSet}
use Rattle.model.specs.Sets.{Has, nothing}
use Rattle.positions.specs.declared.position.Position.{Position}

-- the pair of a position
abbrev pub pair : Position → ℕ × ℕ
pair x = (x.state, x.watch)

-- the pair is in the rows
abbrev pub Holds : List NumberSet → ℕ × ℕ → Type 0
Holds rows p = Has (slice_index_or rows p.1 nothing) p.0

-- a pair of one row, with a state of the set
abbrev pub InRow : ℕ → (ℕ → Type 0) → ℕ × ℕ → Type 0
InRow watch states p = (p.1 ≡ watch) × states p.0
