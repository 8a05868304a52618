use Rattle.std.proofs.Common.{◌≡◌, ◌+◌, sym, ◌∙◌, subst, ⊎_elim}
use Rattle.model.specs.Relations.{Among}
use Rattle.language.specs.Rules.{head_of, SymbolsBelow, RulesWithin}
use Rattle.language.proofs.Coming.{coming_among, all_came, among_last}
use Rattle.path.specs.Reaching.{Reached, ReachShut, NoShorter}
use Rattle.path.proofs.Splitting.{stuck, splits_from}
use Rattle.path.proofs.unfolding.split.Goals as goal

pub shrink_in-requires-clause-within : goal.shrink_in-requires-clause-within
shrink_in-requires-clause-within g c =
    let given = c.rules-rule-items.ensures in
    let among = coming_among _ (c.into_iter-rule-iterator.ensures.into_iter_gives ∙ given.rules) c.loop-rule.yielded_by c.in-Some.ensures.steps in
    subst (λ k. SymbolsBelow k c.in-Some.rule) (sym c.requires.symbols) (given.named c.in-Some.rule among)

pub returns-in-Some-shrink_in : goal.returns-in-Some-shrink_in
returns-in-Some-shrink_in g c n kn =
    let given = c.rules-rule-items.ensures in
    let among = coming_among _ (c.into_iter-rule-iterator.ensures.into_iter_gives ∙ given.rules) c.loop-rule.yielded_by c.in-Some.ensures.steps in
    let (hm, f) = c.in-Some-shrink_in.ensures in
    splits_from (g.L.UntilLanguage.rules c.args.language.now) c.args.table.now c.args.fact.symbol (head_of c.in-Some.rule) c.args.fact.from c.args.fact.to n (c.reach-mask.ensures.reached.every _ hm).2 c.in-Some-shrink_in.found
    (f (g.L.UntilLanguage.rules c.args.language.now) n among c.requires.sound (c.entry-worth.ensures ∙ kn.is))

pub loop-rule-preserved : goal.loop-rule-preserved
loop-rule-preserved g c r r∈ = ⊎_elim (c.loop-rule.invariant r)
    (λ e. subst (NoShorter c.args.table.now c.args.fact.from c.args.fact.to c.entry-worth.result c.reach-mask.result) (sym e) c.in_default.ensures) (among_last _ _ r r∈)

pub unreachable-requires : goal.unreachable-requires
unreachable-requires g c =
    let (n, top, pos, low, few, closed, kn) = c.requires.known in
    let rules = g.L.UntilLanguage.rules c.args.language.now in
    let given = c.rules-rule-items.ensures in
    let e : c.entry-worth.result ≡ n + 1 = c.entry-worth.ensures ∙ kn.is in
    let all = all_came _ (c.into_iter-rule-iterator.ensures.into_iter_gives ∙ given.rules) c.loop-rule.yielded_by c.in-None.ensures.steps.0 in
    let (path, gu, d, len) = c.requires.sound _ n kn in
    stuck rules c.args.table.now c.requires.sound _ _ kn.there.from kn.there.to top n _ _ pos low (subst (λ k. RulesWithin k rules) (sym c.requires.symbols) given.named) closed
    (subst (λ z. Reached rules c.args.table.now c.args.fact.from c.args.fact.to z c.args.fact.symbol c.reach-mask.result) e c.reach-mask.ensures.reached)
    (subst (λ z. ReachShut rules c.args.table.now c.args.fact.from c.args.fact.to z c.reach-mask.result) e c.reach-mask.ensures.shut)
    (λ r r∈. subst (λ z. NoShorter c.args.table.now c.args.fact.from c.args.fact.to z c.reach-mask.result r) e (c.loop-rule.invariant r (subst (Among r) (sym all) r∈)))
    d.0 _ c.reach-mask.ensures.reached.first (path, gu, d.1, len)
