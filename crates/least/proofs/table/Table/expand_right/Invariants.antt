use Rattle.std.proofs.Common.{ℕ, ◌<◌}
use Rattle.language.specs.declared.rule.Rule.TheVariants.{Pair}
use Rattle.least.specs.Entries.{triple}
use Rattle.least.specs.Lowering.{Always, PairAt}
use Rattle.least.proofs.table.Table.expand_right.Given as goal

abbrev pub invariant-loop-from : goal.invariant-loop-from
invariant-loop-from l = Always (Pair l.head l.left l.fact.symbol)
    (λ t. (s : ℕ) → s < l.from → PairAt l.top (l.left, s, l.fact.from) (triple l.fact) (l.head, s, l.fact.to) t) l.initial.self l.self l.fell
