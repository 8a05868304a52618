use Rattle.std.proofs.Common.{rules, ◌^◌, arith}
use Rattle.std.proofs.lemmas.Iterator.{YieldsList-from_slice}
use Rattle.std.proofs.lemmas.Iterator.Adapters.{fits_from_length, at_most_from_yields_List}
use Rattle.path.proofs.search.count_at.Goals as goal

-- fewer entries than a `usize` can count, each at most 1
pub sum-requires-clause-fits : goal.sum-requires-clause-fits
sum-requires-clause-fits c =
    fits_from_length _ _ (2 ^ 63) (2 ^ 64) (at_most_from_yields_List (YieldsList-from_slice c.args.entries.now cc) (omega (arith, c.iter.ensures.bound))) c.map.ensures.closure (omega arith) (λ x r q k. search rules)
