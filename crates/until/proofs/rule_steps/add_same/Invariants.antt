use Rattle.model.specs.Relations.{Joined, Upto}
use Rattle.until.specs.Consequences.{StartingAt, BySame}
use Rattle.triples.specs.Triples.{Holds}
use Rattle.until.proofs.rule_steps.add_same.Given as goal

abbrev pub invariant-loop-from : goal.invariant-loop-from
invariant-loop-from l = Joined (Holds l.initial.found.rows) (Holds l.found.rows) (Upto (StartingAt (BySame l.head l.body (Holds l.bodies.rows))) l.from)
