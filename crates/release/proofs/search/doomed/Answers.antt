use Rattle.std.proofs.Common.{sym, refl, ap, ◌∙◌, subst}
use Rattle.model.specs.Relations.{Exactly}
use Rattle.model.specs.Sets.{Has}
use Rattle.positions.specs.Pairs.{Holds}
use Rattle.positions.specs.Searches.{Roomy}
use Rattle.positions.specs.Looking.{table_of}
use Rattle.positions.specs.Beginnings.{BadBelow}
use Rattle.positions.proofs.Turns.{charted}
use Rattle.release.specs.Releases.{Doomed}
use Rattle.release.proofs.Dooms.{ready_start, ready_looked, turn_less, ready_end, sound_bad, doomed_all, states_without, turn, doomed_by}
use Rattle.release.proofs.search.doomed.Goals as goal

pub loop-top-init : goal.loop-top-init
loop-top-init g c =
    let x = c.doom_marked.new.self in
    let s = x.setting in
    record {
      same = refl;
      ready = ready_start s.watched.model.now (table_of s) (Has s.freeing) x.found.rows x.pile c.doom_marked.ensures.all;
      sound = λ k h. h;
      keeps = λ p h. h;
    }

pub loop-top-preserved : goal.loop-top-preserved
loop-top-preserved g c =
    let s = c.doom_marked.new.self.setting in
    let x = c.loop-top.search in
    let inv = c.loop-top.invariant in
    let looked = turn s x c.pop.new.self c.expand.new.self c.in-Some.top (c.in-Some.ensures.setting ∙ inv.same) c.in-Some.ensures.found c.expand.ensures in
    record {
      same = c.expand.ensures.same ∙ c.in-Some.ensures.setting ∙ inv.same;
      ready = ready_looked s.watched.model.now (table_of s) (Has s.freeing) x.found.rows x.pile c.pop.new.self.pile c.in-Some.top c.in-Some.ensures.waiting inv.ready looked;
      sound = λ k h. looked.sound k (inv.sound k h);
      keeps = λ p h. looked.keeps p (inv.keeps p h);
    }

pub loop-top-smaller : goal.loop-top-smaller
loop-top-smaller g c =
    let x = c.loop-top.search in
    let y = c.expand.new.self in
    let s = x.setting in
    let looked = turn s x c.pop.new.self y c.in-Some.top c.in-Some.ensures.setting c.in-Some.ensures.found c.expand.ensures in
    turn_less s.watched.model.now (table_of s) (Has s.freeing) x.found.rows x.pile c.pop.new.self.pile c.in-Some.top c.in-Some.ensures.waiting (charted s).small
    (subst (λ k. Roomy k.watched.model.now (table_of k).states y.found.rows y.pile) (c.expand.ensures.same ∙ c.in-Some.ensures.setting) y.roomy) looked

pub returns : goal.returns
returns g c =
    let x = c.doom_marked.new.self in
    let y = c.loop-top.search in
    let s = x.setting in
    let m = s.watched.model.now in
    let t = table_of s in
    let inv = c.loop-top.invariant in
    let begun = c.doom_marked.ensures in
    let made = c.over-search.ensures in
    let unkept = states_without m c.states.result c.below.result c.args.kept c.without-unkept.result (c.states.ensures ∙ sym (ap (λ k. k.watched.model.now.states) begun.same ∙ ap (λ w. w.model.now.states) made.watched)) c.below.ensures c.without-unkept.ensures in
    let bad = subst (λ k. Exactly (Holds x.found.rows) (BadBelow (table_of k) (table_of k).states (Has c.without-unkept.result))) (sym begun.same) begun.bad in
    let all = doomed_all m t s.freeing c.args.kept y.found.rows (charted s).whole
    (inv.sound c.args.kept (sound_bad m t (Has s.freeing) (Has c.args.kept) x.found.rows (Has c.without-unkept.result) (charted s).small bad (λ u. (unkept u).0)))
    (λ u q k l b. inv.keeps (u, q) ((bad (u, q)).1 (l, b.0, (unkept u).1 (k, b.1))))
    (ready_end m t (Has s.freeing) y.found.rows y.pile c.in_default.ensures.waiting inv.ready) in
    subst (λ f. Doomed c.args.watched.model.now (g.W.Watcher.table c.args.watched.watcher.now) (Has c.args.freeing) (Has c.args.kept) f.rows) (sym c.in_default.ensures.found)
    (doomed_by s c.args.watched.watcher.now c.args.watched.model.now c.args.freeing (Has c.args.kept) y.found.rows (ap (λ k. k.watched.watcher.now) begun.same ∙ ap (λ w. w.watcher.now) made.watched) (ap (λ k. k.watched.model.now) begun.same ∙ ap (λ w. w.model.now) made.watched) (ap (λ k. k.freeing) begun.same ∙ made.freeing) all)
