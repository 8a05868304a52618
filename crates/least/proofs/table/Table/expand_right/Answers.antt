use Rattle.std.proofs.Common.{◌<◌, arith}
use Rattle.least.proofs.Runs.{run_like, run_more, same_scope}
use Rattle.least.proofs.Turns.{is_at, in_at, place_at, in_table, pair_turn}
use Rattle.least.proofs.table.Table.expand_right.Goals as goal

pub join-fell-requires-clause-left : goal.join-fell-requires-clause-left
join-fell-requires-clause-left c = in_table c.loop-from.self _ _ (is_at c.args.self.now.scope c.loop-from.self.scope (same_scope c.loop-from.invariant) c.requires.left (omega (arith, c.loop-from-test.true, c.states-from-end.ensures)) c.requires.fact.from) c.cell-other.ensures

pub join-fell-requires-clause-right : goal.join-fell-requires-clause-right
join-fell-requires-clause-right c = in_table c.loop-from.self _ _ (in_at c.args.self.now.scope c.loop-from.self.scope _ (same_scope c.loop-from.invariant) c.requires.fact) (place_at c.args.self.now.scope c.loop-from.self.scope _ _ (same_scope c.loop-from.invariant) c.cell-part.ensures)

pub join-fell-requires-clause-cell : goal.join-fell-requires-clause-cell
join-fell-requires-clause-cell c = in_table c.loop-from.self _ _ (is_at c.args.self.now.scope c.loop-from.self.scope (same_scope c.loop-from.invariant) c.requires.head (omega (arith, c.loop-from-test.true, c.states-from-end.ensures)) c.requires.fact.to) c.cell-cell.ensures

pub loop-from-preserved : goal.loop-from-preserved
loop-from-preserved c rules r∈ =
    let same = same_scope c.loop-from.invariant in
    let i = c.requires.fact in
    let l : c.loop-from.from < c.args.self.now.scope.states = omega (arith, c.loop-from-test.true, c.states-from-end.ensures) in
    run_more _ _ (c.loop-from.invariant rules r∈)
    (pair_turn rules _ _ _ _ _ _ _ _ _ _ c.ranges.top.fits r∈
    (is_at c.args.self.now.scope c.loop-from.self.scope same c.requires.left l i.from) (in_at c.args.self.now.scope c.loop-from.self.scope _ same i) (is_at c.args.self.now.scope c.loop-from.self.scope same c.requires.head l i.to)
    c.cell-other.ensures (place_at c.args.self.now.scope c.loop-from.self.scope _ _ same c.cell-part.ensures) c.cell-cell.ensures c.join-fell.ensures)

pub returns : goal.returns
returns c rules r∈ = run_like _ _ (λ at e s l. at s (omega (arith, c.loop-from-test.false, c.states-from-end.ensures))) (c.loop-from.invariant rules r∈)
