-- How a work table of facts is written.
use Rattle.std.specs.Prelude.{◌≡◌, ℕ, ◌⊎◌, List, slice_index}

-- v stands at the places of P, and what stood before at every other
abbrev pub Written : (ℕ → Type 0) → ℕ → List ℕ → List ℕ → Type 0
Written P v before after = (k : ℕ) → (P k × (slice_index after k ≡ v)) ⊎ ((P k → ⊥) × (slice_index after k ≡ slice_index before k))
