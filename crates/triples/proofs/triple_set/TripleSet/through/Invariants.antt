use Rattle.model.specs.Relations.{Joined}
use Rattle.model.specs.Sets.{Has}
use Rattle.triples.specs.Triples.{Holds, Through}
use Rattle.triples.proofs.TripleRows.{ReachedOr}
use Rattle.triples.proofs.triple_set.TripleSet.through.Given as goal

abbrev pub invariant-loop-second : goal.invariant-loop-second
invariant-loop-second l = Joined (Has l.found) (ReachedOr l.initial.found l.initial.rest l.self.rows l.first) (Through (Has l.rest) (Holds l.self.rows) l.first)

abbrev pub decreases-loop-second : goal.decreases-loop-second
decreases-loop-second l = l.rest.bits
