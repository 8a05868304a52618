use Rattle.std.proofs.Common.{ℕ, ◌<◌}
use Rattle.language.specs.declared.rule.Rule.TheVariants.{Pair}
use Rattle.least.specs.Entries.{triple}
use Rattle.least.specs.Lowering.{Always, PairAt}
use Rattle.least.proofs.table.Table.expand_left.Given as goal

abbrev pub invariant-loop-to : goal.invariant-loop-to
invariant-loop-to l = Always (Pair l.head l.fn.fact.symbol l.right)
    (λ t. (u : ℕ) → u < l.to → PairAt l.top (triple l.fn.fact) (l.right, l.fn.fact.to, u) (l.head, l.fn.fact.from, u) t) l.initial.self l.self l.fell
