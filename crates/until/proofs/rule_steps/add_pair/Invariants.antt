use Rattle.model.specs.Relations.{Joined, Upto}
use Rattle.until.specs.Consequences.{StartingAt, ByPair}
use Rattle.triples.specs.Triples.{Holds}
use Rattle.until.proofs.rule_steps.add_pair.Given as goal

abbrev pub invariant-loop-from : goal.invariant-loop-from
invariant-loop-from l = Joined (Holds l.initial.found.rows) (Holds l.found.rows) (Upto (StartingAt (ByPair l.head l.left l.right (Holds l.lefts.rows) (Holds l.rights.rows))) l.from)
