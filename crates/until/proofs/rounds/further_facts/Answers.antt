use Rattle.std.proofs.Common.{◌∙◌}
use Rattle.language.proofs.Coming.{coming_among, joined_next}
use Rattle.language.proofs.Naming.{rules_more}
use Rattle.until.proofs.rounds.further_facts.Goals as goal

pub add_fresh-requires : goal.add_fresh-requires
add_fresh-requires g c =
    let given = c.rules-rule-items.ensures in
    rules_more _ 16 _ given.limits.few_symbols given.named c.in-Some.rule (coming_among _ (c.into_iter-rule-iterator.ensures.into_iter_gives ∙ given.rules) c.loop-rule.yielded_by c.in-Some.ensures.steps)

pub loop-rule-preserved : goal.loop-rule-preserved
loop-rule-preserved g c = joined_next _ _ _ c.loop-rule.invariant c.add_fresh.ensures
