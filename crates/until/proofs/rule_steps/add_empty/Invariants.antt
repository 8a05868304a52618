use Rattle.model.specs.Relations.{Joined, Upto}
use Rattle.until.specs.Consequences.{StartingAt, ByEmpty}
use Rattle.triples.specs.Triples.{Holds}
use Rattle.until.proofs.rule_steps.add_empty.Given as goal

abbrev pub invariant-loop-from : goal.invariant-loop-from
invariant-loop-from l = Joined (Holds l.initial.found.rows) (Holds l.found.rows) (Upto (StartingAt (ByEmpty l.states l.head)) l.from)
