use Rattle.std.proofs.Common.{◌≡◌}
use Rattle.model.specs.Relations.{Joined, Upto}
use Rattle.language.specs.Tables.{step}
use Rattle.triples.specs.Triples.{Holds}
use Rattle.charts.proofs.charts.making.add_steps.Given as goal

abbrev pub invariant-loop-action : goal.invariant-loop-action
invariant-loop-action g l = Joined (Holds l.initial.arrows.rows) (Holds l.arrows.rows) (Upto (λ k x. x ≡ (k, step (g.W.Watcher.table l.watched.watcher.now) l.watch k, l.watch)) l.action)
