use Rattle.std.proofs.Common.{◌≡◌, ℕ, ◌<◌, get_or}
use Rattle.model.specs.Sets.{nothing}
use Rattle.triples.proofs.triple_set.TripleSet.same.Given as goal

abbrev pub invariant-loop-place : goal.invariant-loop-place
invariant-loop-place l = (k : ℕ) → k < l.place → (get_or l.self.rows k nothing).bits ≡ (get_or l.other.rows k nothing).bits
