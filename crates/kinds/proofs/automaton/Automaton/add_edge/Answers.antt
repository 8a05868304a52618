use Rattle.model.specs.Edges.{Inside}
use Rattle.model.proofs.RecordSets.{add_keeps_all}
use Rattle.kinds.proofs.automaton.Automaton.add_edge.Goals as goal

pub invariant_of-self-clause-inside : goal.invariant_of-self-clause-inside
invariant_of-self-clause-inside c = add_keeps_all (Inside c.args.self.now.states c.args.self.now.actions) c.args.self.now.edges c.add.new.self c.args.edge c.add.result c.add.ensures.after c.args.self.now.inside (c.if-edge-self-2.false, c.if-edge-self.false, c.if-edge-self-3.false)
