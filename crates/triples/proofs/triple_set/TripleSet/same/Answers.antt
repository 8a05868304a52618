use Rattle.std.proofs.Common.{ℕ, sym, ap, ◌∙◌, arith, below_more}
use Rattle.std.proofs.lemmas.List.{ext_get_or}
use Rattle.model.specs.Sets.{nothing}
use Rattle.model.specs.declared.number_set.NumberSet.{NumberSet}
use Rattle.triples.proofs.triple_set.TripleSet.same.Goals as goal

with_bits : ℕ → NumberSet
with_bits n = record { bits = n }

pub loop-place-preserved : goal.loop-place-preserved
loop-place-preserved c = below_more _ _ c.loop-place.invariant (sym c.bits.ensures ∙ c.if-bits.false ∙ c.bits-in-loop-place.ensures)

pub returns : goal.returns
unfolding with_bits
returns c =
    let a = c.args.self.now in
    let b = c.args.other.now in
    ext_get_or nothing a.rows b.rows (a.long ∙ sym b.long) (λ i l. ap with_bits (c.loop-place.invariant i (omega (arith, a.long, c.loop-place-test.false))))
