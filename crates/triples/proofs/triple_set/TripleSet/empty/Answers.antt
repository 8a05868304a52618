use Rattle.std.proofs.Common.{◌≡◌, ◌+◌, ◌*◌, get_or, replicate, sym, subst}
use Rattle.model.specs.Sets.{nothing}
use Rattle.model.proofs.Tables.{get_d_copies}
use Rattle.model.proofs.Bits.{has_none}
use Rattle.triples.proofs.TripleSizes.{size_copies}
use Rattle.triples.proofs.triple_set.TripleSet.empty.Goals as goal

pub returns : goal.returns
returns c = record {
  none = λ f h. has_none _ f.2 (subst (λ y. get_or (replicate 512 y) (f.0 * 32 + f.1) nothing ≡ nothing) (sym c.empty.ensures) (get_d_copies 512 nothing (f.0 * 32 + f.1))) h.1;
  size = size_copies _ c.empty.ensures 512 512;
}
