use Rattle.std.proofs.Common.{◌≡◌, ℕ, ◌<◌, ◌≤◌, length, get_or}
use Rattle.model.specs.Sets.{nothing}
use Rattle.triples.proofs.triple_set.TripleSet.step_rows.Given as goal

abbrev pub invariant-loop-place : goal.invariant-loop-place
invariant-loop-place g l = (length l.row-items ≡ 512)
    × ((k : ℕ) → k < l.place → goal.F-post g l.step (get_or l.initial.row-items k nothing) (get_or l.other.rows k nothing) (get_or l.row-items k nothing))
    × ((k : ℕ) → l.place ≤ k → get_or l.row-items k nothing ≡ get_or l.initial.row-items k nothing)
