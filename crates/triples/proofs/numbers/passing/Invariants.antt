use Rattle.model.proofs.Passing.{Passed}
use Rattle.triples.proofs.numbers.passing.Given as goal

abbrev pub invariant-loop-t : goal.invariant-loop-t
invariant-loop-t g l = Passed (λ u passes. goal.F-post g l.test u passes) l.found l.t
