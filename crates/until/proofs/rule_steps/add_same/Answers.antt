use Rattle.std.proofs.Common.{arith}
use Rattle.model.proofs.Joins.{joined_none, joined_more}
use Rattle.until.proofs.Rows.{rows_all, same_row}
use Rattle.until.proofs.rule_steps.add_same.Goals as goal

pub loop-from-init : goal.loop-from-init
loop-from-init c = joined_none _

pub loop-from-preserved : goal.loop-from-preserved
loop-from-preserved c = joined_more _ _ c.loop-from.invariant (same_row _ _ _ _ _ (omega arith) c.row.ensures c.add.ensures)

pub returns : goal.returns
returns c = rows_all _ _ (λ f d. omega (arith, (c.requires.bodies _ d.1).1, c.loop-from-test.false)) c.loop-from.invariant
