-- Sums along a chain of calls.
use Rattle.std.proofs.Common.{◌≡◌, ℕ, ◌+◌, ◌-◌, ◌/◌, ◌<◌, ◌≤◌, Option, arith}
use denote.Param.Members.{Mut, Called}
use Rattle.std.specs.List.{fold}
use Rattle.std.specs.declared.iter.Map.{Map}
use Rattle.std.specs.Iterator.Runs.{WholeRun}
use Rattle.std.specs.Iterator.Adapters.{map_steps, map_source, map_callee}
use Rattle.std.proofs.lemmas.Iterator.Adapters.{YieldsAtMost, fits_from_length}

-- what `sum` after `map` gave, from a bound on the number of items and one on each result
pub sum_below : {S A F : Type 0} {steps : S → Option A → S → Type 0} {g : Mut F (A × Unit {0}) ℕ} {s : Map S F} {total : ℕ} → WholeRun (map_steps steps g) s (λ p. total ≡ fold (λ a x. a + x) 0 p.items)
    → (f : F) (n top : ℕ) → YieldsAtMost steps (map_source s) n → map_callee s ≡ f → 0 < top → ((x : A) (r : ℕ) (q : F) → Called g f (x, tt) r q → (q ≡ f) × (r ≤ (top - 1) / n)) → total < top
sum_below {g = g} (run, from, _, is) f n top few same some each = omega (arith, is, fits_from_length g f n top few same some each run run.seen from)
