use Rattle.model.specs.Relations.{Joined, Triple}
use Rattle.language.specs.Rules.{BySome}
use Rattle.chart.specs.Charts.{ByRule}
use Rattle.triples.specs.Triples.{Holds}
use Rattle.chart.proofs.filling.round.Given as goal

abbrev pub invariant-loop-rule : goal.invariant-loop-rule
invariant-loop-rule g l = Joined (Holds l.chart.rows) (Holds l.next.rows) (BySome (λ r (p : Triple). ByRule l.word r (Holds l.chart.rows) p) l.yielded)
