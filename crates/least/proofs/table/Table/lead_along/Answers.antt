use Rattle.std.proofs.Common.{◌<◌, sym, refl, subst, arith}
use Rattle.model.specs.Sets.{Has}
use Rattle.least.specs.declared.scope.Scope.{Scope}
use Rattle.least.proofs.Runs.{run_like, run_more, same_scope}
use Rattle.least.proofs.Turns.{is_at, edge_at, ends_in}
use Rattle.least.proofs.table.Table.lead_along.Goals as goal

pub lead_to-fell-requires-clause-edge : goal.lead_to-fell-requires-clause-edge
lead_to-fell-requires-clause-edge c = edge_at c.args.self.now.scope c.loop-to.self.scope _ (same_scope c.loop-to.invariant) c.requires.edge

pub lead_to-fell-requires-clause-guarded : goal.lead_to-fell-requires-clause-guarded
lead_to-fell-requires-clause-guarded c =
    subst (λ (z : Scope). Has z.ground.now.guard c.args.edge.from) (sym (same_scope c.loop-to.invariant)) (c.if-not-admits.ensures.0 refl)

pub lead_to-fell-requires-clause-rest : goal.lead_to-fell-requires-clause-rest
lead_to-fell-requires-clause-rest c = is_at c.args.self.now.scope c.loop-to.self.scope (same_scope c.loop-to.invariant) c.requires.rest (ends_in c.args.self.now.scope _ c.requires.edge).1 (omega (arith, c.loop-to-test.true, c.states-to-end.ensures))

pub lead_to-fell-requires-clause-head : goal.lead_to-fell-requires-clause-head
lead_to-fell-requires-clause-head c = subst (λ (z : Scope). c.args.lead.head < z.symbols) (sym (same_scope c.loop-to.invariant)) c.requires.head

pub loop-to-preserved : goal.loop-to-preserved
loop-to-preserved c rules r∈ = run_more _ _ (c.loop-to.invariant rules r∈) (c.lead_to-fell.ensures rules r∈)

pub returns : goal.returns
returns c rules r∈ = run_like _ _ (λ at t l. at t (omega (arith, c.loop-to-test.false, c.states-to-end.ensures))) (c.loop-to.invariant rules r∈)
