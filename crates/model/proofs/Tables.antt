-- Tables of copies.
use Rattle.std.proofs.Common.{◌≡◌, ℕ, zero, suc, ◌<◌, [], length, get_or, replicate, refl, arith}
use Rattle.std.proofs.lemmas.List.{length-replicate}

pub get_d_copies : {X : Type 0} (n : ℕ) (x : X) (k : ℕ) → get_or (replicate n x) k x ≡ x
get_d_copies zero x k = refl
get_d_copies (suc n) x zero = refl
get_d_copies (suc n) x (suc k) = get_d_copies n x k

-- a table of rows, each of copies
pub get_row_copies : {X : Type 0} (n m : ℕ) (x : X) (i k : ℕ) → get_or (get_or (replicate n (replicate m x)) i []) k x ≡ x
get_row_copies zero m x i k = refl
get_row_copies (suc n) m x zero k = get_d_copies m x k
get_row_copies (suc n) m x (suc i) k = get_row_copies n m x i k

pub row_length : {X : Type 0} (n m : ℕ) (x : X) (i : ℕ) → i < n → length (get_or (replicate n (replicate m x)) i []) ≡ m
row_length zero m x i l = absurd (omega arith)
row_length (suc n) m x zero l = length-replicate m x
row_length (suc n) m x (suc i) l = row_length n m x i (omega arith)
