use Rattle.std.proofs.Common.{sym, ◌∙◌, subst}
use Rattle.model.specs.Relations.{Joined}
use Rattle.model.specs.Sets.{Has}
use Rattle.model.proofs.Joins.{joined_exactly}
use Rattle.language.specs.Rules.{head_of, SymbolsBelow, BySome}
use Rattle.language.proofs.Coming.{coming_among, all_came, joined_next}
use Rattle.path.specs.Reaching.{Keeps}
use Rattle.path.proofs.reaching.reach_once.Goals as goal

pub reach_by-requires-clause-within : goal.reach_by-requires-clause-within
reach_by-requires-clause-within g c =
    let given = c.rules-rule-items.ensures in
    let among = coming_among _ (c.into_iter-rule-iterator.ensures.into_iter_gives ∙ given.rules) c.loop-rule.yielded_by c.in-Some.ensures.steps in
    subst (λ k. SymbolsBelow k c.in-Some.rule) (sym c.requires.symbols) (given.named c.in-Some.rule among)

pub loop-rule-preserved : goal.loop-rule-preserved
loop-rule-preserved g c = joined_next _ _ _ c.loop-rule.invariant (joined_exactly c.reach_by.ensures c.union-more.ensures)

pub returns-clause-joined : goal.returns-clause-joined
returns-clause-joined g c =
    let all = all_came _ (c.into_iter-rule-iterator.ensures.into_iter_gives ∙ c.rules-rule-items.ensures.rules) c.loop-rule.yielded_by c.in-None.ensures.steps.0 in
    subst (λ rules. Joined (Has c.args.mask) (Has c.loop-rule.more) (BySome (λ x y. Has c.args.mask (head_of x) × Keeps c.args.table.now c.args.span.from c.args.span.to c.args.span.worth x y) rules)) all c.loop-rule.invariant
