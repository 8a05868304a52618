use Rattle.std.proofs.Common.{◌≡◌, ◌+◌, ◌<◌, get_or, ap, arith}
use mathlib.Core.Bool.{false≢true}
use Rattle.logic.specs.Layouts.{place}
use Rattle.least.proofs.Runs.{run_like, run_more, same_scope}
use Rattle.least.proofs.Turns.{is_at, in_at, place_at, in_table, row_in, pair_turn, left_all, left_none}
use Rattle.least.proofs.table.Table.expand_left.Goals as goal

pub any_lower-requires-clause-others : goal.any_lower-requires-clause-others
any_lower-requires-clause-others c = row_in c.args.self.now _ _ _ c.requires.right c.requires.fact.to c.cell-others.ensures

pub any_lower-requires-clause-heads : goal.any_lower-requires-clause-heads
any_lower-requires-clause-heads c = row_in c.args.self.now _ _ _ c.requires.head c.requires.fact.from c.cell-heads.ensures

pub returns-then-not-any_lower : goal.returns-then-not-any_lower
returns-then-not-any_lower c rules r∈ =
    left_none rules _ _ _ _ _ _ _ _ _ _ (ap (λ x. get_or c.args.self.now.entries.now x 0) c.cell-part.ensures) c.cell-others.ensures c.cell-heads.ensures (λ k l y. false≢true (c.if-not-any_lower.ensures.1 (k, l, y)))

pub join-fell-requires-clause-right : goal.join-fell-requires-clause-right
join-fell-requires-clause-right c =
    let same = same_scope c.loop-to.invariant in
    let l : c.loop-to.to < c.args.self.now.scope.states = omega (arith, c.loop-to-test.true, c.states-to-end.ensures) in
    in_table c.loop-to.self _ _ (is_at c.args.self.now.scope c.loop-to.self.scope same c.requires.right c.requires.fact.to l) (place_at c.args.self.now.scope c.loop-to.self.scope _ _ same (omega (arith, c.cell-others.ensures)))

pub join-fell-requires-clause-cell : goal.join-fell-requires-clause-cell
join-fell-requires-clause-cell c =
    let same = same_scope c.loop-to.invariant in
    let l : c.loop-to.to < c.args.self.now.scope.states = omega (arith, c.loop-to-test.true, c.states-to-end.ensures) in
    in_table c.loop-to.self _ _ (is_at c.args.self.now.scope c.loop-to.self.scope same c.requires.head c.requires.fact.from l) (place_at c.args.self.now.scope c.loop-to.self.scope _ _ same (omega (arith, c.cell-heads.ensures)))

pub loop-to-preserved : goal.loop-to-preserved
loop-to-preserved c rules r∈ =
    let same = same_scope c.loop-to.invariant in
    let i = c.requires.fact in
    let l : c.loop-to.to < c.args.self.now.scope.states = omega (arith, c.loop-to-test.true, c.states-to-end.ensures) in
    let other : c.cell-others.result + c.loop-to.to ≡ place c.args.self.now.scope.states (c.args.right, c.args.fact.to, c.loop-to.to) = omega (arith, c.cell-others.ensures) in
    let head : c.cell-heads.result + c.loop-to.to ≡ place c.args.self.now.scope.states (c.args.head, c.args.fact.from, c.loop-to.to) = omega (arith, c.cell-heads.ensures) in
    run_more _ _ (c.loop-to.invariant rules r∈)
    (pair_turn rules _ _ _ _ _ _ _ _ _ _ c.ranges.top.fits r∈
    (in_at c.args.self.now.scope c.loop-to.self.scope _ same i) (is_at c.args.self.now.scope c.loop-to.self.scope same c.requires.right i.to l) (is_at c.args.self.now.scope c.loop-to.self.scope same c.requires.head i.from l)
    (place_at c.args.self.now.scope c.loop-to.self.scope _ _ same c.cell-part.ensures) (place_at c.args.self.now.scope c.loop-to.self.scope _ _ same other) (place_at c.args.self.now.scope c.loop-to.self.scope _ _ same head) c.join-fell.ensures)

pub returns : goal.returns
returns c rules r∈ = left_all rules _ _ _ _ _ _ _ _ _ (run_like _ _ (λ at t l. at t (omega (arith, c.loop-to-test.false, c.states-to-end.ensures))) (c.loop-to.invariant rules r∈))
