-- A loop that adds step by step.
use Rattle.std.proofs.Common.{◌≡◌, ℕ, ◌+◌, ◌<◌, ◌≤◌, ◌⊎◌, List, length, Some, None, subst, inl, inr, ⊎_elim, arith}
use Rattle.std.specs.List.{slice_get}
use Rattle.std.proofs.lemmas.Option.{slice_get_past}
use Rattle.model.specs.Relations.{Among}
use native.Mathlib.Decide.{dec_lt}
use Rattle.model.specs.Relations.{Joined, Upto, Exactly}

pub joined_none : {X : Type 0} {P : X → Type 0} (step : ℕ → X → Type 0) → Joined P P (Upto step 0)
joined_none step = record {
  keeps = λ x p. p;
  puts = λ x m. let h : m.0 < 0 = m.1 in absurd (omega arith);
  only = λ x p. inl p;
}

-- nothing is added
pub joined_same : {X : Type 0} {P : X → Type 0} (more : X → Type 0) → ((x : X) → more x → ⊥) → Joined P P more
joined_same more none = record { keeps = λ x p. p; puts = λ x m. absurd (none x m); only = λ x p. inl p }

-- the same additions in other words
pub joined_like : {X : Type 0} {P Q : X → Type 0} (D E : X → Type 0) → ((x : X) → D x → E x) → ((x : X) → E x → D x) → Joined P Q D → Joined P Q E
joined_like D E to from a = record {
  keeps = a.keeps;
  puts = λ x m. a.puts x (from x m);
  only = λ x q. ⊎_elim inl (λ m. inr (to x m)) (a.only x q);
}

module _ {X : Type 0} (step : ℕ → X → Type 0) (i : ℕ) where
  upto_split : (x : X) → Upto step (i + 1) x → Upto step i x ⊎ step i x
  upto_split x m = elim (dec_lt m.0 i) [ yes h ↦ inl (m.0, h, m.2) | no h ↦ inr (let e : m.0 ≡ i = omega (arith, m.1) in subst (λ k. step k x) e m.2) ]

  pub joined_more : {P Q R : X → Type 0} → Joined P Q (Upto step i) → Joined Q R (step i) → Joined P R (Upto step (i + 1))
  joined_more a b = record {
    keeps = λ x p. b.keeps x (a.keeps x p);
    puts = λ x m. ⊎_elim (λ u. b.keeps x (a.puts x u)) (b.puts x) (upto_split x m);
    only = λ x r. ⊎_elim (λ q. ⊎_elim inl (λ m. inr (m.0, omega (arith, m.1), m.2)) (a.only x q)) (λ s. inr (i, omega arith, s)) (b.only x r);
  }

-- the set after, under another name
pub joined_from : {X Y : Type 0} {P : X → Type 0} {D : X → Type 0} (F : Y → X → Type 0) {a b : Y} → a ≡ b → Joined P (F a) D → Joined P (F b) D
joined_from {P = P} {D = D} F e j = subst (λ y. Joined P (F y) D) e j

-- nothing was there before
pub joined_exact : {X : Type 0} {P Q : X → Type 0} (D E : X → Type 0) → ((x : X) → P x → ⊥) → ((x : X) → D x → E x) → ((x : X) → E x → D x) → Joined P Q D → Exactly Q E
joined_exact D E none to from j x = (λ q. ⊎_elim (λ p. absurd (none x p)) (to x) (j.only x q), λ e. j.puts x (from x e))

-- one addition after another
pub joined_both : {X : Type 0} {P Q R : X → Type 0} (D E : X → Type 0) → Joined P Q D → Joined Q R E → Joined P R (λ x. D x ⊎ E x)
joined_both D E a b = record {
  keeps = λ x p. b.keeps x (a.keeps x p);
  puts = λ x m. ⊎_elim (λ d. b.keeps x (a.puts x d)) (b.puts x) m;
  only = λ x r. ⊎_elim (λ q. ⊎_elim inl (λ d. inr (inl d)) (a.only x q)) (λ e. inr (inr e)) (b.only x r);
}

-- what is added is given exactly
pub joined_exactly : {X : Type 0} {P Q : X → Type 0} {M D : X → Type 0} → Exactly M D → Joined P Q M → Joined P Q D
joined_exactly is j = joined_like _ _ (λ x. (is x).0) (λ x. (is x).1) j

-- the element at a place, when each place has at most one
pub same_place : {X : Type 0} (xs : List X) (i : ℕ) (x y : X) → slice_get xs i ≡ Some x → slice_get xs i ≡ Some y → x ≡ y
same_place xs i x y p q = cc

pub place_before : {X : Type 0} (xs : List X) (i : ℕ) (x : X) → slice_get xs i ≡ Some x → i < length xs
place_before xs i x e = go (dec_lt i (length xs))
  where
    go : Dec (i < length xs) → i < length xs
    go (yes l) = l
    go (no l) = let past : length xs ≤ i = omega arith in let n : slice_get xs i ≡ None = slice_get_past xs i past in let z : ◌≡◌ {A = ℕ} 0 1 = cc in omega arith

-- what one element adds
pub among_more : {X Y : Type 0} {P Q : Y → Type 0} (xs : List X) (i : ℕ) (x : X) (D : X → Y → Type 0) → slice_get xs i ≡ Some x → Joined P Q (D x) → Joined P Q (λ p. (y : X) × (slice_get xs i ≡ Some y) × D y p)
among_more xs i x D here j = joined_like _ _ (λ p m. (x, here, m)) (λ p m. subst (λ y. D y p) (same_place xs i m.0 x m.1 here) m.2) j

-- all the elements are done, and nothing was there before
pub among_exact : {X Y : Type 0} {P Q : Y → Type 0} (xs : List X) (n : ℕ) (D : X → Y → Type 0) → ((y : Y) → P y → ⊥) → length xs ≤ n → Joined P Q (Upto (λ k p. (x : X) × (slice_get xs k ≡ Some x) × D x p) n) → Exactly Q (λ p. (x : X) × Among x xs × D x p)
among_exact xs n D none done j = joined_exact _ _ none
    (λ p m. (m.2.0, (m.0, m.2.1), m.2.2))
    (λ p m. (m.1.0, omega (arith, place_before xs m.1.0 m.0 m.1.1), (m.0, m.1.1, m.2))) j
