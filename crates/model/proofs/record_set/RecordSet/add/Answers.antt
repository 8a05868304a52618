use Rattle.std.proofs.Common.{rules}
use Rattle.model.proofs.RecordSets.{distinct_more}
use Rattle.model.proofs.record_set.RecordSet.add.Goals as goal

pub invariant_of-self-clause-distinct : goal.invariant_of-self-clause-distinct
invariant_of-self-clause-distinct g c = distinct_more c.args.self.now.records.items _ c.args.item (search rules) c.args.self.now.distinct (λ there. search rules)
