use Rattle.std.proofs.Common.{◌<◌, length, arith}
use Rattle.language.proofs.Coming.{first_from}
use Rattle.language.proofs.rules.RulesIterator.next.Goals as goal

pub returns-clause-steps : goal.returns-clause-steps
returns-clause-steps g c =
    let rules = g.L.UntilLanguage.rules c.self.inside.language.now in
    let inside : c.self.inside.place < length rules = omega (arith, c.self.invariant, c.if-self.false) in
    rw (← c.self.view_is) (first_from rules c.self.inside.place c.rule-rule.result inside c.rule-rule.ensures)
