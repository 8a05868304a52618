use Rattle.std.proofs.Common.{arith}
use Rattle.kinds.specs.Passed.{marked_length}
use Rattle.kinds.specs.Told.{told_length, finals_few}
use Rattle.kinds.proofs.automaton.telling.AutomatonUntilLanguage.rule_count.Goals as goal

pub overflow_add-result : goal.overflow_add-result
overflow_add-result c = let m = c.args.self.now in omega (arith, c.len.ensures.most, m.few_states, finals_few m, c.marked_count.ensures, marked_length m.finals m.states)

pub returns : goal.returns
returns c = let m = c.args.self.now in omega (arith, told_length m, c.len.ensures.count, c.marked_count.ensures, marked_length m.finals m.states)
