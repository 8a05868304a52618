use Rattle.std.proofs.Common.{◌<◌, ◌||◌, sym, refl, subst}
use Rattle.language.specs.Rules.{SymbolsBelow}
use Rattle.language.specs.declared.rule.Rule.TheVariants.{Same, Pair}
use Rattle.least.specs.declared.scope.Scope.{Scope}
use Rattle.least.specs.Lowering.{Always, ShutRule}
use Rattle.least.specs.Bands.{low_of, high_of}
use Rattle.least.proofs.Runs.{run_like, run_both, same_scope}
use Rattle.least.proofs.Turns.{part_all}
use Rattle.least.proofs.table.Table.sweep_rule.Goals as goal

pub sweep_part-second-requires-clause-within : goal.sweep_part-second-requires-clause-within
sweep_part-second-requires-clause-within c = subst (λ (z : Scope). SymbolsBelow z.symbols (Pair c.in-Pair.head c.in-Pair.left c.in-Pair.right)) (sym (same_scope c.sweep_part-first.ensures)) (subst (SymbolsBelow c.args.self.now.scope.symbols) c.in-Pair.is c.requires)

pub sweep_part-second-requires-clause-symbol : goal.sweep_part-second-requires-clause-symbol
sweep_part-second-requires-clause-symbol c =
    subst (λ (z : Scope). c.in-Pair.right < z.symbols) (sym (same_scope c.sweep_part-first.ensures)) (subst (SymbolsBelow c.args.self.now.scope.symbols) c.in-Pair.is c.requires).2

pub returns-in-Lead : goal.returns-in-Lead
returns-in-Lead c =
    subst (λ r. Always r (ShutRule c.args.top (low_of c.args.band) (high_of c.args.band) r) c.args.self.now c.sweep_lead.new.self c.sweep_lead.result) (sym c.in-Lead.is) c.sweep_lead.ensures

pub returns-in-Same : goal.returns-in-Same
returns-in-Same c =
    subst (λ r. Always r (ShutRule c.args.top (low_of c.args.band) (high_of c.args.band) r) c.args.self.now c.sweep_part.new.self c.sweep_part.result) (sym c.in-Same.is)
    (λ rules r∈. part_all rules c.args.top (low_of c.args.band) (high_of c.args.band) (Same c.in-Same.head c.in-Same.body) c.in-Same.body refl (c.sweep_part.ensures rules r∈))

pub returns-then-not-takes_seconds : goal.returns-then-not-takes_seconds
returns-then-not-takes_seconds c =
    subst (λ r. Always r (ShutRule c.args.top (low_of c.args.band) (high_of c.args.band) r) c.args.self.now c.sweep_part-first.new.self c.sweep_part-first.result) (sym c.in-Pair.is)
    (λ rules r∈. part_all rules c.args.top (low_of c.args.band) (high_of c.args.band) (Pair c.in-Pair.head c.in-Pair.left c.in-Pair.right) c.in-Pair.left refl (c.sweep_part-first.ensures rules r∈))

pub returns-else-left-right : goal.returns-else-left-right
returns-else-left-right c =
    subst (λ r. Always r (ShutRule c.args.top (low_of c.args.band) (high_of c.args.band) r) c.args.self.now c.sweep_part-second.new.self (c.sweep_part-first.result || c.sweep_part-second.result)) (sym c.in-Pair.is)
    (λ rules r∈. part_all rules c.args.top (low_of c.args.band) (high_of c.args.band) (Pair c.in-Pair.head c.in-Pair.left c.in-Pair.right) c.in-Pair.left refl (run_like _ _ (λ (a, b). a) (run_both _ (c.sweep_part-first.ensures rules r∈) (c.sweep_part-second.ensures rules r∈))))
