use Rattle.positions.specs.Looking.{table_of}
use Rattle.positions.proofs.Findings.{roomy_popped, popped_inside}
use Rattle.positions.proofs.search.Search.pop.Goals as goal

pub invariant_of-self-clause-roomy : goal.invariant_of-self-clause-roomy
invariant_of-self-clause-roomy g c =
    let s = c.args.self.now in
    roomy_popped s.setting.watched.model.now (table_of s.setting).states s.found.rows s.pile c.pop.new.self c.pop.result c.pop.ensures.items c.pop.ensures.unchanged c.pop.ensures.room s.roomy

pub returns-clause-inside : goal.returns-clause-inside
returns-clause-inside g c =
    let s = c.args.self.now in
    popped_inside s.setting.watched.model.now (table_of s.setting).states s.found.rows s.pile c.pop.new.self c.pop.result c.pop.ensures.items s.roomy
