use Rattle.std.proofs.Common.{length, ap, arith}
use Rattle.kinds.specs.Passed.{marked_length}
use Rattle.kinds.specs.Nesting.{others_marked, others_few, told_length}
use Rattle.kinds.proofs.brackets.telling.BracketsUntilLanguage.rule_count.Goals as goal

pub overflow_add-result : goal.overflow_add-result
overflow_add-result c =
    let b = c.args.self.now in
    omega (arith, b.few_actions, others_few b, c.marked_count.ensures, marked_length c.others-others.result b.actions, ap length (others_marked b c.others-others.result c.others-others.ensures.marks))

pub returns : goal.returns
returns c =
    let b = c.args.self.now in
    omega (arith, told_length b, c.marked_count.ensures, marked_length c.others-others.result b.actions, ap length (others_marked b c.others-others.result c.others-others.ensures.marks))
