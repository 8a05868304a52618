-- What one comparison does to the number of differences.
use Rattle.std.specs.Prelude.{◌≡◌, ℕ, ◌<◌, ◌≤◌, ◌≢◌, Bool, Result}
use Rattle.model.specs.declared.refusal.Refusal.{Refusal}

-- the number stays where the answers agree, and is above 0 once two differ
pub record Noted (before after : ℕ) (found expected : Result Bool Refusal) : Type 0 where
  pub agree : found ≡ expected → after ≡ before
  pub differ : (found ≢ expected) → 0 < after
  pub lasts : before ≤ after
