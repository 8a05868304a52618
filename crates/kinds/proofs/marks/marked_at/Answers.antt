use Rattle.std.proofs.Common.{rules, false, sym, ◌∙◌, slice_index_or, arith}
use Rattle.std.proofs.lemmas.Iterator.{YieldsList-from_range}
use Rattle.std.proofs.lemmas.Iterator.Adapters.{option_map_id}
use Rattle.std.proofs.lemmas.Iterator.Consumers.{YieldsList-from_filter, nth_from_yields_List}
use Rattle.kinds.specs.Passing.{marked_below}
use Rattle.kinds.proofs.marks.marked_at.Goals as goal

pub returns : goal.returns
unfolding marked_below
returns c =
    let source = YieldsList-from_range 0 c.args.n c.args.n c.filter.ensures.source (omega arith) in
    sym (option_map_id c.nth.result) ∙ nth_from_yields_List c.nth.result c.nth.new.self c.args.place c.nth.ensures.ran
    (YieldsList-from_filter _ (λ q. slice_index_or c.args.marks.now q false) source c.filter.ensures.closure (λ x b q k. search rules))
