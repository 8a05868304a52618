use Rattle.std.proofs.Common.{sym, subst, arith}
use Rattle.language.specs.Rules.{SymbolsBelow}
use Rattle.least.specs.declared.scope.Scope.{Scope}
use Rattle.least.proofs.Runs.{run_like, run_more, same_scope}
use Rattle.least.proofs.Turns.{is_at}
use Rattle.least.proofs.table.Table.sweep_row.Goals as goal

pub expand_in-fell-requires-clause-within : goal.expand_in-fell-requires-clause-within
expand_in-fell-requires-clause-within c = subst (λ (z : Scope). SymbolsBelow z.symbols c.args.rule) (sym (same_scope c.loop-to.invariant)) c.requires.within

pub expand_in-fell-requires-clause-fact : goal.expand_in-fell-requires-clause-fact
expand_in-fell-requires-clause-fact c = is_at c.args.self.now.scope c.loop-to.self.scope (same_scope c.loop-to.invariant) c.requires.symbol c.requires.from (omega (arith, c.loop-to-test.true, c.states-to-end.ensures))

pub loop-to-preserved : goal.loop-to-preserved
loop-to-preserved c rules r∈ = run_more _ _ (c.loop-to.invariant rules r∈) (c.expand_in-fell.ensures rules r∈)

pub returns : goal.returns
returns c rules r∈ = run_like _ _ (λ at t l. at t (omega (arith, c.loop-to-test.false, c.states-to-end.ensures))) (c.loop-to.invariant rules r∈)
