use Rattle.model.specs.Relations.{Joined, Upto}
use Rattle.triples.specs.Triples.{Holds}
use Rattle.charts.specs.Arrows.{BackFrom}
use Rattle.charts.proofs.charts.making.arrows_back.Given as goal

abbrev pub invariant-loop-watch : goal.invariant-loop-watch
invariant-loop-watch g l = Joined (Holds l.initial.arrows.rows) (Holds l.arrows.rows) (Upto (λ k. BackFrom l.watched.model.now.actions (g.W.Watcher.table l.watched.watcher.now) k) l.watch)
