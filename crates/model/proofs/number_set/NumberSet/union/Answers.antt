use Rattle.model.proofs.Bits.{or_joined}
use Rattle.model.proofs.number_set.NumberSet.union.Goals as goal

pub returns : goal.returns
returns c = or_joined c.args.self.bits c.args.other.bits
