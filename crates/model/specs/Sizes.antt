-- Sizes, and when a number is none.
use Rattle.std.specs.Prelude.{◌≡◌, ℕ, ◌<◌, ◌⊎◌, IfOk, Result}
use Rattle.model.specs.declared.refusal.Refusal.{Refusal}
use Rattle.model.specs.declared.size.Size.{Size}
use Rattle.model.specs.declared.size_or_one.SizeOrOne.{SizeOrOne}
use Rattle.model.specs.Refusals.{Refuse, Accept, refusal}

-- a number lies outside its range
abbrev pub Outside : ℕ → ℕ → ℕ → Type 0
Outside low high n = (n < low) ⊎ (high < n)

-- a number from 1 to max is that size, and any other is refused
pub record Measured (max n : ℕ) (r : Result (Size max) Refusal) : Type 0 where
  pub cause : Refuse (Outside 1 max n) 4 Accept (refusal r)
  pub value : IfOk r (λ s. s.count ≡ n)

-- the same of a size that may be one where max is 0
pub record MeasuredOrOne (max n : ℕ) (r : Result (SizeOrOne max) Refusal) : Type 0 where
  pub cause : Refuse (Outside 1 max n) 4 Accept (refusal r)
  pub value : IfOk r (λ s. s.count ≡ n)
