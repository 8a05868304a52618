use Rattle.std.proofs.Common.{◌∙◌}
use Rattle.language.proofs.Coming.{coming_among, joined_next, exactly_all}
use Rattle.language.proofs.Naming.{rules_more}
use Rattle.until.proofs.rounds.first_facts.Goals as goal

pub add_alone-requires : goal.add_alone-requires
add_alone-requires g c =
    let given = c.rules-rule-items.ensures in
    rules_more _ 16 _ given.limits.few_symbols given.named c.in-Some.rule (coming_among _ (c.into_iter-rule-iterator.ensures.into_iter_gives ∙ given.rules) c.loop-rule.yielded_by c.in-Some.ensures.steps)

pub loop-rule-preserved : goal.loop-rule-preserved
loop-rule-preserved g c = joined_next _ _ _ c.loop-rule.invariant c.add_alone.ensures

pub returns : goal.returns
returns g c = exactly_all c.loop-rule.yielded _ c.empty-found.ensures.none (c.into_iter-rule-iterator.ensures.into_iter_gives ∙ c.rules-rule-items.ensures.rules) c.loop-rule.yielded_by c.in-None.ensures.steps.0 c.loop-rule.invariant
