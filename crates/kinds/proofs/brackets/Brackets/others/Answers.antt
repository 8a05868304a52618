use Rattle.std.proofs.Common.{arith}
use Rattle.kinds.specs.Nesting.{marks_others}
use Rattle.kinds.proofs.brackets.Brackets.others.Goals as goal

pub returns-clause-marks : goal.returns-clause-marks
returns-clause-marks c = let b = c.args.self.now in marks_others 16 b.up b.down (omega (arith, b.up_known, b.few_actions)) (omega (arith, b.down_known, b.few_actions))
