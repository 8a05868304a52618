use Rattle.triples.proofs.TripleRows.{through_more}
use Rattle.triples.proofs.triple_set.TripleSet.through.Goals as goal

pub loop-second-preserved : goal.loop-second-preserved
loop-second-preserved c =
    through_more c.args.self.now.rows _ _ _ _ c.row.result c.args.first c.in-Some.second c.in-Some.ensures.0 c.row.ensures c.in-Some.ensures.1 c.union-found.ensures c.loop-second.invariant
