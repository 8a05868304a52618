use Rattle.std.proofs.Common.{ℕ}
use Rattle.model.specs.Relations.{Joined}
use Rattle.model.specs.Sets.{Has}
use Rattle.triples.specs.Triples.{Holds, Through}
use Rattle.triples.proofs.TripleRows.{ReachedOr}
use Rattle.until.proofs.rule_steps.onward.Given as goal

abbrev pub invariant-loop-state : goal.invariant-loop-state
invariant-loop-state l = Joined (Has l.found) (ReachedOr l.initial.found l.initial.rest l.rights.rows l.right) (Through (Has l.rest) (Holds l.rights.rows) l.right)
    × ((t : ℕ) → Has l.initial.found t → Has l.found t)

abbrev pub decreases-loop-state : goal.decreases-loop-state
decreases-loop-state l = l.rest.bits
