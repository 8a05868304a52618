use Rattle.std.proofs.Common.{rules, ◌≡◌, get_or, replicate, sym, subst}
use Rattle.model.specs.Models.{blank}
use Rattle.model.proofs.Tables.{get_d_copies}
use Rattle.model.proofs.model.Model.bare.Goals as goal

pub returns : goal.returns
returns c = record {
  states = search rules;
  actions = search rules;
  edges = c.new.ensures;
  records = λ s. subst (λ x. get_or (replicate 32 x) s blank ≡ blank) (sym c.blank.ensures) (get_d_copies 32 blank s);
}
