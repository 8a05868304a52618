use Rattle.std.proofs.Common.{refl}
use Rattle.least.proofs.Runs.{run_like}
use Rattle.least.proofs.Turns.{is_in, ends_in, in_table, lead_turn}
use Rattle.least.proofs.table.Table.lead_to.Goals as goal

pub lift-requires-clause-part : goal.lift-requires-clause-part
lift-requires-clause-part c = in_table c.args.self.now _ _ c.requires.rest c.cell-part.ensures

pub lift-requires-clause-cell : goal.lift-requires-clause-cell
lift-requires-clause-cell c = in_table c.args.self.now _ _ (is_in c.args.self.now.scope _ _ _ c.requires.head (ends_in c.args.self.now.scope _ c.requires.edge).0 c.requires.rest.to) c.cell-cell.ensures

pub returns : goal.returns
returns c rules r∈ = run_like _ _ (λ at _ _. at)
    (lead_turn rules _ _ _ _ _ _ _ _ _ c.ranges.top.fits r∈ c.requires.edge c.requires.action c.requires.guarded refl c.requires.rest (is_in c.args.self.now.scope _ _ _ c.requires.head (ends_in c.args.self.now.scope _ c.requires.edge).0 c.requires.rest.to) c.cell-part.ensures c.cell-cell.ensures c.lift.ensures)
