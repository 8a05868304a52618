use Rattle.model.specs.Relations.{Among}
use Rattle.language.specs.declared.rule.Rule.{Rule}
use Rattle.least.specs.Lowering.{Run, ShutStart}
use Rattle.least.proofs.table.Table.start.Given as goal

abbrev pub invariant-loop-rule : goal.invariant-loop-rule
invariant-loop-rule g l = Run l.fn.rules (λ t. (r : Rule) → Among r l.yielded → ShutStart l.top r t) l.initial.self l.self l.fell
