use Rattle.std.proofs.Common.{◌≡◌, ◌*◌, ◌<◌, get_or, ap, ◌∙◌, subst}
use Rattle.model.specs.declared.number_set.NumberSet.{NumberSet}
use Rattle.model.specs.Relations.{Exactly}
use Rattle.model.specs.Sets.{Has, nothing}
use Rattle.language.specs.Tables.{Accepts}
use Rattle.release.proofs.Dooms.{released, released_words, states_without}
use Rattle.release.proofs.search.keeping.Goals as goal

pub returns : goal.returns
returns g c =
    let m = c.args.watched.model.now in
    let w = c.args.watched.watcher.now in
    let t = g.W.Watcher.table w in
    let rows = c.doomed-found.result.rows in
    let row : c.row.result ≡ get_or rows t.start nothing = c.row.ensures ∙ ap (λ q. get_or rows q nothing) c.start-start.ensures in
    let left = states_without m c.states.result c.below-states.result c.row.result c.without.result c.states.ensures c.below-states.ensures c.without.ensures in
    let spared = subst (λ (x : NumberSet). Exactly (Has c.without.result) (λ s. (s < m.states) × (Has x s → ⊥))) row left in
    let answer = released m t (Has c.args.freeing) (Has c.args.kept) rows c.without.result (g.met.W.Watcher.complete w c.args.watched.small).starts c.doomed-found.ensures spared in
    record {
      accepted = answer;
      words = released_words m (Has c.args.freeing) (Has c.args.kept) (Accepts t) (g.W.Watcher.words w) (m.states * t.states) c.without.result (λ u. g.met.W.Watcher.only_accepted w u c.args.watched.small) (λ u. g.met.W.Watcher.accepted w u c.args.watched.small) answer;
    }
