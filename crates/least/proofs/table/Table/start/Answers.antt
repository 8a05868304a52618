use Rattle.std.proofs.Common.{sym, subst}
use Rattle.language.proofs.Coming.{coming_among}
use Rattle.language.specs.Rules.{SymbolsBelow}
use Rattle.least.specs.declared.scope.Scope.{Scope}
use Rattle.least.proofs.Runs.{run_next}
use Rattle.least.proofs.table.Table.start.Goals as goal

pub start_rule-fell-requires : goal.start_rule-fell-requires
start_rule-fell-requires g c =
    let among = coming_among _ c.into_iter-rule-iterator.ensures.into_iter_gives c.loop-rule.yielded_by c.in-Some.ensures.steps in
    subst (λ (z : Scope). SymbolsBelow z.symbols c.in-Some.rule) (sym c.loop-rule.invariant.same) (c.requires c.in-Some.rule among)

pub loop-rule-preserved : goal.loop-rule-preserved
loop-rule-preserved g c =
    let among = coming_among _ c.into_iter-rule-iterator.ensures.into_iter_gives c.loop-rule.yielded_by c.in-Some.ensures.steps in
    run_next _ _ _ c.loop-rule.invariant (c.start_rule-fell.ensures _ among)
