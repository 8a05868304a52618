use Rattle.std.proofs.Common.{refl}
use Rattle.least.proofs.Turns.{is_in, ends_in, in_table, letter_turn}
use Rattle.least.proofs.table.Table.letter_by.Goals as goal

pub lower-requires-clause-cell : goal.lower-requires-clause-cell
lower-requires-clause-cell c = let ends = ends_in c.args.self.now.scope _ c.requires.edge in in_table c.args.self.now _ _ (is_in c.args.self.now.scope _ _ _ c.requires.head ends.0 ends.1) c.cell-cell.ensures

pub returns-then-admits : goal.returns-then-admits
returns-then-admits c rules r∈ =
    let ends = ends_in c.args.self.now.scope _ c.requires.edge in
    letter_turn rules _ _ _ _ _ c.ranges.top.fits r∈ c.requires.edge c.if-edge-action.true (c.if-admits.ensures.0 refl) (is_in c.args.self.now.scope _ _ _ c.requires.head ends.0 ends.1) c.cell-cell.ensures c.lower.ensures
