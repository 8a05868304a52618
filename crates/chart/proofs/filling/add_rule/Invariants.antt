use Rattle.model.specs.Relations.{Joined, Upto, Triple}
use Rattle.language.specs.Rules.{head_of}
use Rattle.chart.specs.Charts.{Gives}
use Rattle.triples.specs.Triples.{Holds, InRow}
use Rattle.chart.proofs.filling.add_rule.Given as goal

abbrev pub invariant-loop-from : goal.invariant-loop-from
invariant-loop-from l = Joined (Holds l.initial.next.rows) (Holds l.next.rows) (Upto (λ i (p : Triple). InRow (head_of l.rule) i (Gives l.word l.rule (Holds l.chart.rows) i) p) l.from)
