use Rattle.std.proofs.Common.{◌≡◌, true}
use Rattle.model.proofs.RecordSets.{add_keeps_all}
use Rattle.kinds.specs.Rows.{fits}
use Rattle.kinds.specs.Fitting.{fits_from}
use Rattle.kinds.proofs.grammar.Grammar.add_rule.Goals as goal

pub invariant_of-self-clause-inside : goal.invariant_of-self-clause-inside
invariant_of-self-clause-inside c = add_keeps_all (λ r. fits c.args.self.now.symbols c.args.self.now.actions r ≡ true) c.args.self.now.rules c.add.new.self c.args.rule c.add.result c.add.ensures.after c.args.self.now.inside (fits_from _ _ c.args.rule (c.symbols_below.ensures.0 c.if-not-symbols_below.false) (c.actions_below.ensures.0 c.if-not-actions_below.false))
