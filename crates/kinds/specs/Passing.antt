-- The numbers of a stretch that pass a test.
use Rattle.std.specs.Prelude.{ℕ, Bool, false, List, filter, slice_index_or}
use Rattle.std.specs.List.{range_with_len}

-- those of the n numbers from q on that pass, in rising order
abbrev pub passing : (ℕ → Bool) → ℕ → ℕ → List ℕ
passing test q n = filter test (range_with_len q n)

-- the numbers below n that are marked
unfoldable pub marked_below : List Bool → ℕ → List ℕ
marked_below marks n = passing (λ q. slice_index_or marks q false) 0 n
