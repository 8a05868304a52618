use Rattle.std.proofs.Common.{replicate, subst}
use Rattle.model.specs.declared.number_set.NumberSet.{NumberSet}
use Rattle.model.specs.Sets.{Has, nothing}
use Rattle.model.proofs.Bits.{bit_none}
use Rattle.model.proofs.Tables.{get_d_copies}
use Rattle.positions.specs.Pairs.{Holds}
use Rattle.positions.proofs.positions.Positions.none.Goals as goal

pub returns : goal.returns
returns c p h =
    let k : Holds (replicate 32 nothing) p = subst (λ (n : NumberSet). Holds (replicate 32 n) p) c.empty.ensures h in
    bit_none p.0 (subst (λ (n : NumberSet). Has n p.0) (get_d_copies 32 nothing p.1) k)
