use Rattle.model.specs.Relations.{Among}
use Rattle.language.specs.declared.rule.Rule.{Rule}
use Rattle.least.specs.Lowering.{Run, ShutRule}
use Rattle.least.specs.Bands.{low_of, high_of}
use Rattle.least.proofs.table.Table.sweep.Given as goal

abbrev pub invariant-loop-rule : goal.invariant-loop-rule
invariant-loop-rule g l = Run l.fn.rules (λ t. (r : Rule) → Among r l.yielded → ShutRule l.top (low_of l.band) (high_of l.band) r t) l.initial.self l.self l.fell
