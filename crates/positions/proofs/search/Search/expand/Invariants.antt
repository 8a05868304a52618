use Rattle.model.specs.Relations.{Upto}
use Rattle.positions.specs.Pairs.{pair}
use Rattle.positions.specs.Searches.{BackBy}
use Rattle.positions.specs.Looking.{table_of, Looks}
use Rattle.positions.proofs.search.Search.expand.Given as goal

abbrev pub invariant-loop-action : goal.invariant-loop-action
invariant-loop-action g l = Looks (Upto (BackBy l.fn.self.setting.watched.model.now (table_of l.fn.self.setting) (pair l.position)) l.action) l.fn.self l.self
