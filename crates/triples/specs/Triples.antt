-- Sets of triples of numbers: for each first and second number a row, the set of the third.
use Rattle.std.specs.Prelude.{ℕ, zero, suc, ◌≡◌, ◌≢◌, ◌+◌, ◌*◌, ◌<◌, List, get_or, count_ones, slice_index_or}
use Rattle.model.specs.declared.number_set.NumberSet.{NumberSet}
use Rattle.model.specs.Relations.{Triple}
use Rattle.model.specs.Sets.{Has, nothing}

-- the third numbers of a first and a second
abbrev pub row_of : List NumberSet → ℕ → ℕ → NumberSet
row_of rows first second = slice_index_or rows (first * 32 + second) nothing

-- the rows hold the triple
abbrev pub Holds : List NumberSet → Triple → Type 0
Holds rows p = (p.1 < 32) × Has (row_of rows p.0 p.1) p.2

-- how many triples the first n rows hold
unfoldable pub size : List NumberSet → ℕ → ℕ
size rows zero = 0
size rows (suc n) = size rows n + count_ones (get_or rows n nothing).bits

-- a triple of this first and second number, with its third in the set
abbrev pub InRow : ℕ → ℕ → (ℕ → Type 0) → Triple → Type 0
InRow first second set p = (p.0 ≡ first) × (p.1 ≡ second) × set p.2

-- reached by a triple of this first number from a second of the set
abbrev pub Through : (ℕ → Type 0) → (Triple → Type 0) → ℕ → ℕ → Type 0
Through set triples first t = (u : ℕ) × set u × triples (first, u, t)

-- of the one and not of the other
abbrev pub Lacking : (Triple → Type 0) → (Triple → Type 0) → Triple → Type 0
Lacking one other p = one p × (other p → ⊥)

-- the first number of each triple is below the one bound, and the others below the other
abbrev pub TriplesBelow : ℕ → ℕ → (Triple → Type 0) → Type 0
TriplesBelow firsts others triples = (p : Triple) → triples p → (p.0 < firsts) × (p.1 < others) × (p.2 < others)

-- some row of the one differs from that of the other
pub record Apart (xs ys : List NumberSet) : Type 0 where
  pub place : ℕ
  pub inside : place < 512
  pub differs : (get_or xs place nothing).bits ≢ (get_or ys place nothing).bits
  pub fits : (get_or xs place nothing).bits < 4294967296
