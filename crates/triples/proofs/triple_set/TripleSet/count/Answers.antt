use Rattle.std.proofs.Common.{rules, ◌≡◌, ◌^◌, count_ones, sym, ap, ◌∙◌, arith}
use Rattle.std.specs.List.{sum_by}
use Rattle.std.proofs.lemmas.Iterator.{YieldsList-from_slice}
use Rattle.std.proofs.lemmas.Iterator.Adapters.{fits_from_length, at_most_from_yields_List}
use Rattle.model.specs.declared.number_set.NumberSet.{NumberSet}
use Rattle.triples.specs.Triples.{size}
use Rattle.triples.proofs.Counts.{sum_below}
use Rattle.triples.proofs.TripleSizes.{size_sum}
use Rattle.triples.proofs.triple_set.TripleSet.count.Goals as goal

-- at most 512 rows, each with at most 32 numbers
pub sum-requires-clause-fits : goal.sum-requires-clause-fits
sum-requires-clause-fits c =
    fits_from_length _ _ 512 (2 ^ 32) (at_most_from_yields_List (YieldsList-from_slice c.args.self.now.rows cc) (omega (arith, c.args.self.now.long))) c.map.ensures.closure (omega arith) (λ x r q k. search rules)

pub returns-clause-size : goal.returns-clause-size
returns-clause-size c =
    let total : c.sum.result ≡ sum_by (λ (r : NumberSet). count_ones r.bits) c.args.self.now.rows = search rules in
    total ∙ sym (size_sum c.args.self.now.rows) ∙ ap (size c.args.self.now.rows) c.args.self.now.long

pub returns-clause-most : goal.returns-clause-most
returns-clause-most c =
    let few = sum_below (c.sum.ensures.runs tt) _ 512 16385 (at_most_from_yields_List (YieldsList-from_slice c.args.self.now.rows cc) (omega (arith, c.args.self.now.long))) c.map.ensures.closure (omega arith) (λ x r q k. search rules) in
    omega arith
