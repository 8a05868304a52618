use Rattle.std.proofs.Common.{◌^◌, ◌<◌, arith, rules}
use borrow.Author.Tests.{clash}
use Rattle.model.specs.Sets.{Bit}
use Rattle.model.proofs.Bits.{bit_below}
use Rattle.model.proofs.number_set.NumberSet.has.Goals as goal

pub returns-then-n-gt31 : goal.returns-then-n-gt31
returns-then-n-gt31 c =
    let fits : c.args.self.bits < 2 ^ 32 = search rules in
    let past : 31 < c.args.n = c.if-n-gt31.true in
    let none : Bit c.args.self.bits c.args.n → ⊥ = λ h. omega (arith, bit_below 32 c.args.self.bits c.args.n fits h) in
    (λ no. absurd (clash no), λ h. absurd (none h))
