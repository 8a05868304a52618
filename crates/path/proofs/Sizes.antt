-- A set that has no more numbers than one inside it is that one.
use Rattle.std.proofs.Common.{◌≡◌, ℕ, zero, suc, ◌+◌, ◌-◌, ◌/◌, ◌%◌, ◌^◌, ◌<◌, ◌≤◌, sym, ap, ◌∙◌, subst, le_of_eq, add_comm, div-one, add-one, one-add, arith}
use mathlib.Core.Path.{transport}
use native.Mathlib.Nat.{two-pow-succ}
use native.Mathlib.Decide.{ℕ_discrete}
use lib.Count.{ones, ones_step}
use Rattle.std.proofs.lemmas.Nat.{shr-shr, shr_below, pow_pos}
use Rattle.model.specs.Sets.{Bit}

bit_half : (n t : ℕ) → Bit (n / 2) t ≡ Bit n (suc t)
bit_half n t = ap (λ k. k % 2 ≡ 1) (shr-shr n 1 t ∙ ap (λ j. n / 2 ^ j) (one-add t))

bit_odd : (n : ℕ) → Bit n 0 ≡ (n % 2 ≡ 1)
bit_odd n = ap (λ k. k % 2 ≡ 1) (div-one n)

-- a number is below its power
below_pow : (a b : ℕ) → a < 2 ^ (a + b)
below_pow zero b = pow_pos (0 + b)
below_pow (suc a) b = let e : suc a + b ≡ suc (a + b) = omega arith in subst (λ k. suc a < 2 ^ k) (sym e) (omega (arith, below_pow a b, two-pow-succ (a + b)))

ones_inside : (k a b : ℕ) → a < 2 ^ k → b < 2 ^ k → ((t : ℕ) → Bit a t → Bit b t) → (ones a ≤ ones b) × (ones b ≤ ones a → (t : ℕ) → Bit b t → Bit a t)
ones_inside zero a b fa fb sub =
    let ea : a ≡ 0 = omega arith in let eb : b ≡ 0 = omega arith in let e : b ≡ a = omega arith in
    (le_of_eq (ap ones (sym e)), λ _ t h. subst (λ n. Bit n t) e h)
ones_inside (suc k) a b fa fb sub =
    let ih = ones_inside k (a / 2) (b / 2) (half_fits a fa) (half_fits b fb) (λ t h. transport (sym (bit_half b t)) (sub (suc t) (transport (bit_half a t) h))) in
    let low : a % 2 ≤ b % 2 = lower (ℕ_discrete (a % 2) 1) in
    let le = ih.0 in
    let sa = ones_step a in let sb = ones_step b in
    (omega arith, λ back. bits (ih.1 (omega arith)) (omega arith))
  where
    half_fits : (n : ℕ) → n < 2 ^ suc k → n / 2 < 2 ^ k
    half_fits n f = shr_below n k 1 (rw (add-one k) f)

    lower : Dec (a % 2 ≡ 1) → a % 2 ≤ b % 2
    lower (yes o) = let o' : b % 2 ≡ 1 = transport (bit_odd b) (sub 0 (transport (sym (bit_odd a)) o)) in omega arith
    lower (no o) = omega arith

    bits : ((t : ℕ) → Bit (b / 2) t → Bit (a / 2) t) → b % 2 ≤ a % 2 → (t : ℕ) → Bit b t → Bit a t
    bits up low zero h = let o = transport (bit_odd b) h in transport (sym (bit_odd a)) (omega arith)
    bits up low (suc t) h = transport (bit_half a t) (up t (transport (sym (bit_half b t)) h))

module _ (a b : ℕ) (sub : (t : ℕ) → Bit a t → Bit b t) where
  both : (ones a ≤ ones b) × (ones b ≤ ones a → (t : ℕ) → Bit b t → Bit a t)
  both = ones_inside (a + b) a b (below_pow a b) (subst (λ k. b < 2 ^ k) (add_comm b a) (below_pow b a)) sub

  pub grows : ones b ≤ 32 → (ones b ≡ ones a → ⊥) → 32 - ones b < 32 - ones a
  grows l ne = omega (arith, both.0)

  pub back : ones b ≡ ones a → (t : ℕ) → Bit b t → Bit a t
  back e = both.1 (omega arith)
