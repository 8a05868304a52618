use Rattle.std.proofs.Common.{ℕ, ◌<◌}
use Rattle.language.specs.declared.rule.Rule.TheVariants.{Empty}
use Rattle.least.specs.Lowering.{Always, EmptyAt}
use Rattle.least.proofs.table.Table.start_empty.Given as goal

abbrev pub invariant-loop-state : goal.invariant-loop-state
invariant-loop-state l = Always (Empty l.head) (λ t. (s : ℕ) → s < l.state → EmptyAt l.top l.head s t) l.initial.self l.self l.fell
