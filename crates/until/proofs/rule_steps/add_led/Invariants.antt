use Rattle.std.proofs.Common.{◌≡◌, Some}
use Rattle.std.specs.List.{slice_get}
use Rattle.model.specs.declared.edge.Edge.{Edge}
use Rattle.model.specs.Models.{edges_of}
use Rattle.model.specs.Relations.{Joined, Upto}
use Rattle.language.specs.Rules.{head_of}
use Rattle.until.specs.Consequences.{Led}
use Rattle.triples.specs.Triples.{Holds, InRow}
use Rattle.until.proofs.rule_steps.add_led.Given as goal

abbrev pub invariant-loop-edge : goal.invariant-loop-edge
invariant-loop-edge l = Joined (Holds l.initial.found.rows) (Holds l.found.rows) (Upto (λ k f. (e : Edge) × (slice_get (edges_of l.guarded.model) k ≡ Some e) × InRow (head_of l.rule) e.from (Led l.guarded l.rule (Holds l.rests.rows) e) f) l.edge-index)
