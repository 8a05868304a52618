use Rattle.std.proofs.Common.{◌∙◌, subst}
use Rattle.model.specs.Relations.{Joined, Triple}
use Rattle.triples.specs.Triples.{Holds}
use Rattle.language.specs.Rules.{BySome}
use Rattle.language.proofs.Coming.{coming_among, joined_next, all_came}
use Rattle.language.proofs.Naming.{symbols_more}
use Rattle.chart.specs.Charts.{ByRule}
use Rattle.chart.proofs.filling.round.Goals as goal

pub add_rule-requires-clause-symbols : goal.add_rule-requires-clause-symbols
add_rule-requires-clause-symbols g c =
    let given = c.rules-rule-items.ensures in
    let among = coming_among _ (c.into_iter-rule-iterator.ensures.into_iter_gives ∙ given.rules) c.loop-rule.yielded_by c.in-Some.ensures.steps in
    symbols_more _ 16 given.limits.few_symbols c.in-Some.rule (given.named c.in-Some.rule among)

pub loop-rule-preserved : goal.loop-rule-preserved
loop-rule-preserved g c = joined_next _ _ _ c.loop-rule.invariant c.add_rule.ensures

pub returns : goal.returns
returns g c =
    let facts = Holds c.args.chart.now.rows in
    let all = all_came _ (c.into_iter-rule-iterator.ensures.into_iter_gives ∙ c.rules-rule-items.ensures.rules) c.loop-rule.yielded_by c.in-None.ensures.steps.0 in
    subst (λ rules. Joined facts (Holds c.loop-rule.next.rows) (BySome (λ r (p : Triple). ByRule c.args.word.now r facts p) rules)) all c.loop-rule.invariant
