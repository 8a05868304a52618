-- How large a language may be for a call.
use Rattle.std.specs.Prelude.{ℕ, ◌<◌, ◌≤◌, ◌⊎◌, List, length, Option}
use Rattle.model.specs.Refusals.{Refuse, Accept}
use Rattle.language.specs.declared.rule.Rule.{Rule}
use Rattle.language.specs.Tables.{Table}

-- at most 16 symbols and 128 rules
pub record WithinLimits (symbols : ℕ) (rules : List Rule) : Type 0 where
  pub few_symbols : symbols ≤ 16
  pub few_rules : length rules ≤ 128

-- more than 16 symbols, or more than 128 rules
abbrev pub BeyondLimits : ℕ → List Rule → Type 0
BeyondLimits symbols rules = (16 < symbols) ⊎ (128 < length rules)

-- a call refuses such a language
abbrev pub CauseLarge : ℕ → List Rule → Option ℕ → Type 0
CauseLarge symbols rules = Refuse (BeyondLimits symbols rules) 8 Accept

-- a call refuses a watcher of more than 32 states
abbrev pub CauseManyStates : Table → Option ℕ → Type 0
CauseManyStates t = Refuse (32 < t.states) 8 Accept
