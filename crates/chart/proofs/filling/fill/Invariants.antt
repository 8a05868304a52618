use Rattle.model.specs.Relations.{Triple}
use Rattle.triples.specs.Triples.{Holds}
use Rattle.triples.proofs.TripleRooms.{room}
use Rattle.chart.specs.Charts.{Stretch}
use Rattle.chart.proofs.filling.fill.Given as goal

abbrev pub invariant-loop-next : goal.invariant-loop-next
invariant-loop-next g l = (p : Triple) → Holds l.chart.rows p → Stretch l.word (g.L.UntilLanguage.rules l.language) p

abbrev pub decreases-loop-next : goal.decreases-loop-next
decreases-loop-next g l = room l.chart.rows
