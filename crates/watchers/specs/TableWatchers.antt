-- Table watchers: their words, their table, and what the calls do.
use Rattle.std.specs.Prelude.{◌≡◌, ℕ, ◌<◌, ◌≤◌, Bool, true, false, cond, ◌&&◌, ◌≢◌, ◌⊎◌, [], ◌∷◌, Some, None, Option, nat_lt, slice_index, slice_index_or}
use Rattle.model.specs.Refusals.{Refuse, Accept}
use Rattle.model.specs.Sizes.{Outside}
use Rattle.language.specs.Words.{Word, Known}
use Rattle.language.specs.Tables.{Table}
use Rattle.watchers.specs.declared.table_watcher.TableWatcher.{TableWatcher}

-- the stored state after state q and action a
abbrev pub next_of : TableWatcher → ℕ → ℕ → ℕ
next_of t q a = slice_index (slice_index_or t.nexts q []) a

-- whether state q is marked
abbrev pub mark_of : TableWatcher → ℕ → Bool
mark_of t q = slice_index_or t.marks q false

-- the state after a word
abbrev pub reached : TableWatcher → ℕ → Word → ℕ
reached t q [] = q
reached t q (a ∷ w) = reached t (next_of t q a) w

-- the words of known actions that lead from state 0 to a marked state
abbrev pub TableWords : TableWatcher → Word → Type 0
TableWords t w = Known t.actions w × (mark_of t (reached t 0 w) ≡ true)

-- what it tells: the stored steps and marks, of its states and actions alone
abbrev pub stored_table : TableWatcher → Table
stored_table t = record {
  states = t.states;
  start = 0;
  next = λ q a. cond (nat_lt q t.states && nat_lt a t.actions) (Some (next_of t q a)) None;
  marked = λ q. nat_lt q t.states && mark_of t q;
}

-- of these sizes; every step leads to state 0, and no state is marked
pub record Plain (n a : ℕ) (t : TableWatcher) : Type 0 where
  pub states_are : t.states ≡ n
  pub actions_are : t.actions ≡ a
  pub leads : (q b : ℕ) → next_of t q b ≡ 0
  pub unmarked : (q : ℕ) → mark_of t q ≡ false

-- state q and action a lead to state r; all else is as before
pub record NextSet (before after : TableWatcher) (q a r : ℕ) : Type 0 where
  pub here : next_of after q a ≡ r
  pub others : (p b : ℕ) → b < 16 → ((p ≡ q) × (b ≡ a) → ⊥) → next_of after p b ≡ next_of before p b
  pub marks_kept : after.marks ≡ before.marks
  pub states_kept : after.states ≡ before.states
  pub actions_kept : after.actions ≡ before.actions

-- state q is marked; all else is as before
pub record MarkSet (before after : TableWatcher) (q : ℕ) : Type 0 where
  pub here : mark_of after q ≡ true
  pub others : (p : ℕ) → p ≢ q → mark_of after p ≡ mark_of before p
  pub nexts_kept : after.nexts ≡ before.nexts
  pub states_kept : after.states ≡ before.states
  pub actions_kept : after.actions ≡ before.actions

-- the causes of each call, in order
abbrev pub CauseSize : ℕ → ℕ → Option ℕ → Type 0
CauseSize states actions = Refuse (Outside 1 32 states ⊎ Outside 1 16 actions) 4 Accept

abbrev pub CauseNext : TableWatcher → ℕ → ℕ → ℕ → Option ℕ → Type 0
CauseNext t q a r = Refuse (t.actions ≤ a) 2 (Refuse ((t.states ≤ q) ⊎ (t.states ≤ r)) 5 Accept)

abbrev pub CauseMark : TableWatcher → ℕ → Option ℕ → Type 0
CauseMark t q = Refuse (t.states ≤ q) 5 Accept
