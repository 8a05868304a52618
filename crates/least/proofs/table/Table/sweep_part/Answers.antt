use Rattle.std.proofs.Common.{◌<◌, sym, subst, arith}
use Rattle.language.specs.Rules.{SymbolsBelow}
use Rattle.least.specs.declared.scope.Scope.{Scope}
use Rattle.least.proofs.Runs.{run_like, run_more, same_scope}
use Rattle.least.proofs.table.Table.sweep_part.Goals as goal

pub sweep_row-fell-requires-clause-within : goal.sweep_row-fell-requires-clause-within
sweep_row-fell-requires-clause-within c = subst (λ (z : Scope). SymbolsBelow z.symbols c.args.rule) (sym (same_scope c.loop-from.invariant)) c.requires.within

pub sweep_row-fell-requires-clause-symbol : goal.sweep_row-fell-requires-clause-symbol
sweep_row-fell-requires-clause-symbol c = subst (λ (z : Scope). c.args.symbol < z.symbols) (sym (same_scope c.loop-from.invariant)) c.requires.symbol

pub sweep_row-fell-requires-clause-from : goal.sweep_row-fell-requires-clause-from
sweep_row-fell-requires-clause-from c = subst (λ (z : Scope). c.loop-from.from < z.states) (sym (same_scope c.loop-from.invariant)) (omega (arith, c.loop-from-test.true, c.states-from-end.ensures))

pub loop-from-preserved : goal.loop-from-preserved
loop-from-preserved c rules r∈ = run_more _ _ (c.loop-from.invariant rules r∈) (c.sweep_row-fell.ensures rules r∈)

pub returns : goal.returns
returns c rules r∈ = run_like _ _ (λ at t l. at t (omega (arith, c.loop-from-test.false, c.states-from-end.ensures))) (c.loop-from.invariant rules r∈)
