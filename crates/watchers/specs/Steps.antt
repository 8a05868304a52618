-- Step watchers: their words, their table, and when one is refused.
use Rattle.std.specs.Prelude.{◌≡◌, ℕ, ◌+◌, ◌%◌, ◌≤◌, cond, ◌&&◌, ◌⊎◌, length, Some, None, Option, ◌==◌, nat_lt}
use Rattle.model.specs.Refusals.{Refuse, Accept}
use Rattle.model.specs.Sizes.{Outside}
use Rattle.language.specs.Words.{Word, Known}
use Rattle.language.specs.Tables.{Table}
use Rattle.watchers.specs.declared.step_watcher.StepWatcher.{StepWatcher}

-- the words of known actions whose length leaves the remainder when it is divided by the modulus
abbrev pub StepWords : StepWatcher → Word → Type 0
StepWords s w = Known s.actions w × (length w % s.modulus ≡ s.remainder)

-- what it tells: the states count the steps, modulo the modulus
abbrev pub step_table : StepWatcher → Table
step_table s = record {
  states = s.modulus;
  start = 0;
  next = λ q a. cond (nat_lt q s.modulus && nat_lt a s.actions) (Some ((q + 1) % s.modulus)) None;
  marked = λ q. (q == s.remainder);
}

-- the causes of a refusal, in order
abbrev pub CauseSteps : ℕ → ℕ → ℕ → Option ℕ → Type 0
CauseSteps modulus remainder actions =
    Refuse (Outside 1 32 modulus ⊎ Outside 1 16 actions) 4
    (Refuse (modulus ≤ remainder) 6 Accept)

-- the watcher of these numbers
pub record StepsMade (modulus remainder actions : ℕ) (s : StepWatcher) : Type 0 where
  pub modulus_is : s.modulus ≡ modulus
  pub remainder_is : s.remainder ≡ remainder
  pub actions_are : s.actions ≡ actions
