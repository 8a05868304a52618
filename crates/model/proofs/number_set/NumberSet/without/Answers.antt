use Rattle.model.proofs.Bits.{bit_minus}
use Rattle.model.proofs.number_set.NumberSet.without.Goals as goal

pub returns : goal.returns
returns c s = bit_minus c.args.self.bits c.args.other.bits s
