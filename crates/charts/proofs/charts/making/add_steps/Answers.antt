use Rattle.std.proofs.Common.{◌≡◌, ℕ, subst, arith}
use Rattle.model.specs.Relations.{Joined}
use Rattle.model.proofs.Joins.{joined_more}
use Rattle.language.specs.Tables.{Complete}
use Rattle.walks.proofs.Walks.{step_below}
use Rattle.triples.specs.Triples.{Holds}
use Rattle.charts.proofs.Drawings.{step_there, one_more}
use Rattle.charts.proofs.charts.making.add_steps.Goals as goal

pub step_of-next-requires : goal.step_of-next-requires
step_of-next-requires g c =
    let s = c.args.watched.now in
    let t = g.W.Watcher.table s.watcher.now in
    let whole = subst (λ n. Complete n t) s.alphabet (g.met.W.Watcher.complete s.watcher.now s.small) in
    step_there s.model.now.actions t whole c.args.watch c.loop-action.action c.requires (omega (arith, c.loop-action-test.true, c.actions-action-end.ensures))

pub add-requires-clause-second : goal.add-requires-clause-second
add-requires-clause-second g c =
    let s = c.args.watched.now in
    let t = g.W.Watcher.table s.watcher.now in
    let whole = subst (λ n. Complete n t) s.alphabet (g.met.W.Watcher.complete s.watcher.now s.small) in
    let l = step_below s.model.now.actions t whole c.args.watch c.loop-action.action c.requires (omega (arith, c.loop-action-test.true, c.actions-action-end.ensures)) in
    omega (arith, c.step_of-next.ensures, s.small)

pub loop-action-preserved : goal.loop-action-preserved
loop-action-preserved g c =
    let one = one_more c.loop-action.action c.step_of-next.result c.args.watch c.single.result (omega (arith, c.args.watched.now.small, c.requires)) c.single.ensures c.add.ensures in
    joined_more _ c.loop-action.action c.loop-action.invariant
    (subst (λ (r : ℕ). Joined (Holds c.loop-action.arrows.rows) (Holds c.add.new.self.rows) (λ x. x ≡ (c.loop-action.action, r, c.args.watch))) c.step_of-next.ensures one)
