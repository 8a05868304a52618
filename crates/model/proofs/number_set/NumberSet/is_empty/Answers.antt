use Rattle.std.proofs.Common.{rules, ◌^◌, ◌<◌}
use Rattle.std.proofs.lemmas.Bool.{eqb-false}
use Rattle.model.proofs.Bits.{some_bit}
use Rattle.model.proofs.number_set.NumberSet.is_empty.Goals as goal

pub returns-clause-some : goal.returns-clause-some
returns-clause-some c = λ is.
    let fits : c.args.self.bits < 2 ^ 32 = search rules in
    some_bit c.args.self.bits (eqb-false c.args.self.bits 0 is) fits
