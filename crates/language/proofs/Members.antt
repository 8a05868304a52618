-- The elements of two lists, one after the other.
use Rattle.std.specs.Prelude.{◌≡◌, ℕ, zero, suc, ◌⊎◌, List, [], ◌∷◌, ◌++◌}
use Rattle.std.proofs.Common.{inl, inr, ⊎_elim, arith}
use Rattle.model.specs.Relations.{Among}

pub among_left : {X : Type 0} (x : X) (xs ys : List X) → Among x xs → Among x (xs ++ ys)
among_left x [] ys (k, e) = let z : ◌≡◌ {A = ℕ} 0 1 = cc in absurd (omega arith)
among_left x (y ∷ xs) ys (zero, e) = (zero, e)
among_left x (y ∷ xs) ys (suc k, e) = let m = among_left x xs ys (k, e) in (suc m.0, m.1)

pub among_right : {X : Type 0} (x : X) (xs ys : List X) → Among x ys → Among x (xs ++ ys)
among_right x [] ys m = m
among_right x (y ∷ xs) ys m = let l = among_right x xs ys m in (suc l.0, l.1)

pub among_cases : {X : Type 0} (x : X) (xs ys : List X) → Among x (xs ++ ys) → Among x xs ⊎ Among x ys
among_cases x [] ys m = inr m
among_cases x (y ∷ xs) ys (zero, e) = inl (zero, e)
among_cases x (y ∷ xs) ys (suc k, e) = ⊎_elim (λ m. inl (suc m.0, m.1)) inr (among_cases x xs ys (k, e))
