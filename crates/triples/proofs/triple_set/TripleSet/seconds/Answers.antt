use Rattle.std.proofs.Common.{rules}
use Rattle.model.proofs.Passing.{passed_exactly}
use Rattle.triples.proofs.triple_set.TripleSet.seconds.Goals as goal

pub returns : goal.returns
returns c = passed_exactly c.passing.result _ c.passing.ensures.below c.passing.ensures.tested (λ s b l post. search rules)
