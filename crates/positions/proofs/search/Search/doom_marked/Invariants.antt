use Rattle.model.specs.Sets.{Has}
use Rattle.positions.specs.Beginnings.{Begun}
use Rattle.positions.proofs.search.Search.doom_marked.Given as goal

abbrev pub invariant-loop-watch : goal.invariant-loop-watch
invariant-loop-watch g l = Begun (Has l.states) l.watch l.fn.self l.self
