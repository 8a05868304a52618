-- What the searches answer. F frees, K is kept, and t is the watcher's table.
use Rattle.std.specs.Prelude.{ℕ, ◌*◌, ◌<◌, List}
use Rattle.model.specs.declared.number_set.NumberSet.{NumberSet}
use Rattle.model.specs.declared.model.Model.{Model}
use Rattle.model.specs.Relations.{Exactly}
use Rattle.model.specs.Sets.{Has}
use Rattle.language.specs.Words.{Word}
use Rattle.language.specs.Tables.{Table}
use Rattle.logic.specs.Maximal.{Maximal, BreaksAt, SomeKeeps}
use Rattle.walks.specs.Releases.{MarkedFrom, Forced, Bad}
use Rattle.positions.specs.Pairs.{Holds}

-- the rows have exactly the doomed pairs, and no other pair is bad or forced into them
pub record Doomed (m : Model) (t : Table) (F K : ℕ → Type 0) (rows : List NumberSet) : Type 0 where
  pub inside : (s q : ℕ) → Holds rows (s, q) → (s < m.states) × (q < t.states)
  pub breaks : (s q : ℕ) → Holds rows (s, q) → (π : Maximal m s) → (n : ℕ) × (n < m.states * t.states) × BreaksAt F K (MarkedFrom t q) π n
  pub kept : (s q : ℕ) → s < m.states → q < t.states → (Holds rows (s, q) → ⊥) → SomeKeeps m F K (MarkedFrom t q) s
  pub clear : (s q : ℕ) → s < m.states → q < t.states → (Holds rows (s, q) → ⊥) → (Bad t K s q → ⊥) × (Forced m t F (λ u r. Holds rows (u, r)) s q → ⊥)

-- the set has exactly the states that satisfy the release over the words W; from any other state every maximal path breaks
-- it at a moment before n
pub record Released (m : Model) (F K : ℕ → Type 0) (W : Word → Type 0) (n : ℕ) (set : NumberSet) : Type 0 where
  pub exact : Exactly (Has set) (λ s. (s < m.states) × SomeKeeps m F K W s)
  pub breaks : (s : ℕ) → s < m.states → (Has set s → ⊥) → (π : Maximal m s) → (k : ℕ) × (k < n) × BreaksAt F K W π k
