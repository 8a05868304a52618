use Rattle.std.proofs.Common.{◌<◌, arith}
use Rattle.least.proofs.Runs.{run_like, run_more, same_scope}
use Rattle.least.proofs.Turns.{is_at, in_table, empty_turn, empty_all}
use Rattle.least.proofs.table.Table.start_empty.Goals as goal

pub lower-fell-requires-clause-cell : goal.lower-fell-requires-clause-cell
lower-fell-requires-clause-cell c =
    let l : c.loop-state.state < c.args.self.now.scope.states = omega (arith, c.loop-state-test.true, c.states-state-end.ensures) in
    in_table c.loop-state.self _ _ (is_at c.args.self.now.scope c.loop-state.self.scope (same_scope c.loop-state.invariant) c.requires l l) c.cell-cell.ensures

pub loop-state-preserved : goal.loop-state-preserved
loop-state-preserved c rules r∈ =
    let l : c.loop-state.state < c.args.self.now.scope.states = omega (arith, c.loop-state-test.true, c.states-state-end.ensures) in
    run_more _ _ (c.loop-state.invariant rules r∈)
    (empty_turn rules _ _ _ _ c.ranges.top.fits r∈ (is_at c.args.self.now.scope c.loop-state.self.scope (same_scope c.loop-state.invariant) c.requires l l) c.cell-cell.ensures c.lower-fell.ensures)

pub returns : goal.returns
returns c rules r∈ = empty_all rules _ _ _ _ _ (run_like _ _ (λ at t l. at t (omega (arith, c.loop-state-test.false, c.states-state-end.ensures))) (c.loop-state.invariant rules r∈))
