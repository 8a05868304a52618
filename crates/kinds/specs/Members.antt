-- The elements of a list that is made of others.
use Rattle.std.specs.Prelude.{◌≡◌, ℕ, zero, suc, ◌-◌, ◌<◌, ◌≤◌, List, [], ◌∷◌, ◌++◌, map, length, None, refl}
use Rattle.std.proofs.Common.{ap, ◌∙◌, ⊎_elim, arith}
use Rattle.std.specs.List.{slice_get}
use Rattle.std.proofs.lemmas.Option.{slice_get_cases}
use Rattle.model.specs.Relations.{Among}

pub among_map : {X Y : Type 0} (f : X → Y) (x : X) (xs : List X) → Among x xs → Among (f x) (map f xs)
among_map f x [] (k, e) = let z : ◌≡◌ {A = ℕ} 0 1 = cc in absurd (omega arith)
among_map f x (y ∷ xs) (zero, e) = (zero, cc)
among_map f x (y ∷ xs) (suc k, e) = let m = among_map f x xs (k, e) in (suc m.0, m.1)

pub among_mapped : {X Y : Type 0} (f : X → Y) (y : Y) (xs : List X) → Among y (map f xs) → (x : X) × Among x xs × (y ≡ f x)
among_mapped f y [] (k, e) = let z : ◌≡◌ {A = ℕ} 0 1 = cc in absurd (omega arith)
among_mapped f y (x ∷ xs) (zero, e) = (x, (zero, refl), cc)
among_mapped f y (x ∷ xs) (suc k, e) = let m = among_mapped f y xs (k, e) in (m.0, (suc m.1.0, m.1.1), m.2)

-- an element of two lists, by its place
pub nth_left : {X : Type 0} (xs ys : List X) (k : ℕ) → k < length xs → slice_get (xs ++ ys) k ≡ slice_get xs k
nth_left [] ys k l = absurd (omega arith)
nth_left (x ∷ xs) ys zero l = refl
nth_left (x ∷ xs) ys (suc k) l = nth_left xs ys k (omega arith)

pub nth_right : {X : Type 0} (xs ys : List X) (k n : ℕ) → n ≡ length xs → n ≤ k → slice_get (xs ++ ys) k ≡ slice_get ys (k - n)
nth_right [] ys k n e l = let s : k ≡ k - n = omega arith in ap (slice_get ys) s
nth_right (x ∷ xs) ys zero n e l = absurd (omega arith)
nth_right (x ∷ xs) ys (suc k) n e l =
    let s : k - length xs ≡ suc k - n = omega arith in
    nth_right xs ys k (length xs) refl (omega arith) ∙ ap (slice_get ys) s

pub past_end : {X : Type 0} (xs : List X) (k : ℕ) → slice_get xs k ≡ None → length xs ≤ k
past_end xs k e = ⊎_elim (λ (x, l, is, same). let z : ◌≡◌ {A = ℕ} 0 1 = cc in absurd (omega arith)) (λ p. p.0) (slice_get_cases xs k).1
