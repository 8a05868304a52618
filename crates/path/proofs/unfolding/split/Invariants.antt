use Rattle.model.specs.Relations.{Among}
use Rattle.language.specs.declared.rule.Rule.{Rule}
use Rattle.path.specs.Reaching.{NoShorter}
use Rattle.path.proofs.unfolding.split.Given as goal

abbrev pub invariant-loop-rule : goal.invariant-loop-rule
invariant-loop-rule g l = (r : Rule) → Among r l.yielded → NoShorter l.table l.span.from l.span.to l.span.worth l.mask r
