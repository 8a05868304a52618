use Rattle.std.proofs.Common.{sym, subst}
use Rattle.least.specs.Lowering.{Always, ShutStart}
use Rattle.least.proofs.table.Table.start_rule.Goals as goal

pub returns-in-Empty : goal.returns-in-Empty
returns-in-Empty c = subst (λ r. Always r (ShutStart c.args.top r) c.args.self.now c.start_empty.new.self c.start_empty.result) (sym c.in-Empty.is) c.start_empty.ensures

pub returns-in-Letter : goal.returns-in-Letter
returns-in-Letter c = subst (λ r. Always r (ShutStart c.args.top r) c.args.self.now c.start_letter.new.self c.start_letter.result) (sym c.in-Letter.is) c.start_letter.ensures
