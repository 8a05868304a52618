-- Sets of numbers below 32, as the bits of a number.
use Rattle.std.specs.Prelude.{◌≡◌, ℕ, ◌/◌, ◌%◌, ◌^◌}
use Rattle.model.specs.declared.number_set.NumberSet.{NumberSet}

-- bit t of n is one
abbrev pub Bit : ℕ → ℕ → Type 0
Bit n t = (n / 2 ^ t) % 2 ≡ 1

-- t is in the set x
abbrev pub Has : NumberSet → ℕ → Type 0
Has x t = Bit x.bits t

-- the set that is nothing's
abbrev pub nothing : NumberSet
nothing = record { bits = 0 }
