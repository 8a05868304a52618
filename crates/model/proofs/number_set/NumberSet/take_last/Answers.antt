use Rattle.std.proofs.Common.{◌≡◌, ◌^◌, ◌<◌, sym, ◌∙◌, arith, rules}
use Rattle.std.proofs.lemmas.Bool.{false≢true}
use Rattle.model.proofs.Bits.{top_le, top_taken, empty_bits}
use Rattle.model.proofs.number_set.NumberSet.take_last.Goals as goal

pub overflow_sub-self : goal.overflow_sub-self
overflow_sub-self c =
    let some : c.args.self.now.bits ≡ 0 → ⊥ = λ z. false≢true (sym c.if-is_empty.false ∙ c.is_empty.ensures.none.1 (empty_bits c.args.self.now z)) in
    let pos : 0 < c.args.self.now.bits = omega arith in
    let fits : c.args.self.now.bits < 2 ^ 32 = search rules in
    top_le c.args.self.now.bits pos fits

pub returns : goal.returns
returns c =
    let some : c.args.self.now.bits ≡ 0 → ⊥ = λ z. false≢true (sym c.if-is_empty.false ∙ c.is_empty.ensures.none.1 (empty_bits c.args.self.now z)) in
    let pos : 0 < c.args.self.now.bits = omega arith in
    let fits : c.args.self.now.bits < 2 ^ 32 = search rules in
    top_taken c.args.self.now.bits pos fits
