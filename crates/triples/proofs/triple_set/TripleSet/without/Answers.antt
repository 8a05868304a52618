use Rattle.std.proofs.Common.{rules}
use Rattle.triples.proofs.TripleSizes.{lacking_all}
use Rattle.triples.proofs.triple_set.TripleSet.without.Goals as goal

pub returns : goal.returns
returns c = lacking_all _ _ _ c.args.self.now.long c.step_rows.new.self.long (λ k l. let called = c.step_rows.ensures k l in search rules)
