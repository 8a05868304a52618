-- Whether an until language has a word: when the question is refused.
use Rattle.std.specs.Prelude.{ℕ, ◌<◌, List, length, Option}
use Rattle.model.specs.Refusals.{Refuse}
use Rattle.language.specs.Limits.{CauseLarge}
use Rattle.language.specs.Words.{Word}
use Rattle.language.specs.declared.rule.Rule.{Rule}

-- the causes of a refusal, in order: a word of more than 31 actions; more than 16 symbols or 128 rules
abbrev pub CauseDerives : Word → ℕ → List Rule → Option ℕ → Type 0
CauseDerives w symbols rules = Refuse (31 < length w) 4 (CauseLarge symbols rules)
