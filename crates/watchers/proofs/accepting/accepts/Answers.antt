use Rattle.std.proofs.Common.{rules, ◌≡◌, ◌≤◌, true, sym, refl, ◌∙◌, inr, arith}
use Rattle.language.specs.Tables.{run}
use Rattle.watchers.specs.Lost.{marked_known}
use Rattle.watchers.proofs.Folding.{decided}
use Rattle.watchers.proofs.accepting.accepts.Goals as goal

pub returns : goal.returns
returns g c =
    let l = c.args.watcher.now in
    let t = g.W.Watcher.table l in
    let w = c.args.word.now in
    let few : t.states ≤ 32 = c.in_ok-check_states.ensures.limit in
    let whole = g.met.W.Watcher.complete l few in
    let (xs, o, f, a, (e, came, last), turns, ends) = c.try_fold-end.ensures.ran in
    let found = c.is_some_and.result in
    let decision = decided t _ _ (λ p x q is turn. search rules) (g.W.Alphabet.known l) whole xs o c.iter.result e _ _ (f, a) refl came last turns c.try_fold-end.result ends
    (λ all. search rules) (λ x is m. search rules) found (λ none. search rules) (λ z some. search rules) in
    let same : found ≡ t.marked (run t t.start w) = rw (c.iter.ensures.rest, c.start.ensures) at decision in
    record {
      cause = inr ((λ large. omega (arith, few)), refl);
      right = (λ is. g.met.W.Watcher.only_accepted l w few (sym same ∙ is), λ m. same ∙ g.met.W.Watcher.accepted l w few m);
      known = λ is. let it_is : found ≡ true = cc in marked_known (g.W.Alphabet.known l) t whole t.start w (sym same ∙ it_is);
    }
