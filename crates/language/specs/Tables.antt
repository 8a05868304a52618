-- What a watcher tells, and its runs.
use Rattle.std.specs.Prelude.{◌≡◌, ℕ, ◌<◌, ◌≤◌, Bool, true, false, [], ◌∷◌, Some, None, Option}
use Rattle.std.specs.Option.{unwrap_or}
use Rattle.language.specs.Words.{Word}

-- the number of states, the start, the state after a state and an action, and whether a state is marked
pub record Table : Type 0 where
  pub states : ℕ
  pub start : ℕ
  pub next : ℕ → ℕ → Option ℕ
  pub marked : ℕ → Bool

-- the state after a step; where the table has none, the word is lost: one state more than the table has, and no way back
abbrev pub step : Table → ℕ → ℕ → ℕ
step t q a = unwrap_or (t.next q a) t.states

-- the state after a word
abbrev pub run : Table → ℕ → Word → ℕ
run t q [] = q
run t q (a ∷ w) = run t (step t q a) w

-- the run over the word from the start ends in a marked state
abbrev pub Accepts : Table → Word → Type 0
Accepts t w = t.marked (run t t.start w) ≡ true

-- a table over n actions: its states are below their number, a step is there exactly for its states and actions, and no
-- state beyond it is marked
pub record Complete (n : ℕ) (t : Table) : Type 0 where
  pub starts : t.start < t.states
  pub leads : (q a : ℕ) → q < t.states → a < n → (r : ℕ) × (t.next q a ≡ Some r) × (r < t.states)
  pub no_state : (q a : ℕ) → t.states ≤ q → t.next q a ≡ None
  pub no_action : (q a : ℕ) → n ≤ a → t.next q a ≡ None
  pub unmarked : (q : ℕ) → t.states ≤ q → t.marked q ≡ false
