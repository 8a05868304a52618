-- A table of which the first n places are in use, as a reader asks it.
use Rattle.std.specs.Prelude.{◌≡◌, ℕ, ◌<◌, ◌≤◌, List, length, take, Some, None, slice_index_or}
use Rattle.std.proofs.Common.{◌∙◌, ap, arith}
use Rattle.std.specs.List.{slice_get}
use Rattle.std.proofs.lemmas.List.{length-take-le, get_or-take}
use Rattle.std.proofs.lemmas.Option.{slice_get-get_or, slice_get_past}

pub nth_in_use : {X : Type 0} (xs : List X) (n k : ℕ) (d : X) → n ≤ length xs → k < n → slice_get (take n xs) k ≡ Some (slice_index_or xs k d)
nth_in_use xs n k d room l =
    let long : k < length (take n xs) = omega (arith, length-take-le n xs room) in
    slice_get-get_or (take n xs) k d long ∙ ap Some (get_or-take n xs k d l)

pub nth_unused : {X : Type 0} (xs : List X) (n k : ℕ) → n ≤ length xs → n ≤ k → slice_get (take n xs) k ≡ None
nth_unused xs n k room l = slice_get_past (take n xs) k (omega (arith, length-take-le n xs room))
