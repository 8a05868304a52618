use Rattle.std.proofs.Common.{◌<◌, length, sym, ap, subst, arith}
use Rattle.model.specs.Models.{edges_of}
use Rattle.least.specs.declared.scope.Scope.{Scope}
use Rattle.least.proofs.Runs.{run_like, run_at, run_all, same_scope}
use Rattle.least.proofs.Turns.{edge_at, item_in, letter_all}
use Rattle.least.proofs.table.Table.start_letter.Goals as goal

pub letter_by-fell-requires-clause-head : goal.letter_by-fell-requires-clause-head
letter_by-fell-requires-clause-head c = subst (λ (z : Scope). c.args.head < z.symbols) (sym (same_scope c.loop-edge.invariant)) c.requires

pub letter_by-fell-requires-clause-edge : goal.letter_by-fell-requires-clause-edge
letter_by-fell-requires-clause-edge c = edge_at c.args.self.now.scope c.loop-edge.self.scope _ (same_scope c.loop-edge.invariant) (_, item_in _ _ _ _ c.edges-edge-items.ensures c.loop-edge-test.true)

pub loop-edge-preserved : goal.loop-edge-preserved
loop-edge-preserved c rules r∈ = run_at _ _ _ _ (item_in _ _ _ _ c.edges-edge-items.ensures c.loop-edge-test.true) (c.loop-edge.invariant rules r∈) (c.letter_by-fell.ensures rules r∈)

pub returns : goal.returns
returns c rules r∈ = letter_all rules _ _ _ _ _ _ (run_like _ _ (λ at. at) (run_all rules (edges_of c.args.self.now.scope.ground.now.model) _ (omega (arith, ap length c.edges-edge-items.ensures, c.loop-edge-test.false)) (c.loop-edge.invariant rules r∈)))
