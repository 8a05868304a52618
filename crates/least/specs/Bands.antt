-- The entries of the facts that a sweep takes up.
use Rattle.std.specs.Prelude.{ℕ, Bool, true, false}
use Rattle.least.specs.declared.band.Band.{Band}
use Rattle.least.specs.declared.band.Band.TheVariants.{Firsts, Either}

-- the least entry of a band
abbrev pub low_of : Band → ℕ
low_of (Firsts low high) = low
low_of (Either low high) = low

-- the greatest
abbrev pub high_of : Band → ℕ
high_of (Firsts low high) = high
high_of (Either low high) = high

-- its facts are the second part of pair rules too
abbrev pub seconds_of : Band → Bool
seconds_of (Firsts low high) = false
seconds_of (Either low high) = true
