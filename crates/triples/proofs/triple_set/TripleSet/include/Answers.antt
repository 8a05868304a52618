use Rattle.std.proofs.Common.{rules}
use Rattle.triples.proofs.TripleSizes.{joined_all}
use Rattle.triples.proofs.triple_set.TripleSet.include.Goals as goal

pub returns : goal.returns
returns c = joined_all _ _ _ c.args.other.now.long c.args.self.now.long c.step_rows.new.self.long (λ k l. let called = c.step_rows.ensures k l in search rules)
