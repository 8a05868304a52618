-- Membership in a union, in a set of one and in none.
use Rattle.std.proofs.Common.{◌≡◌, ℕ, suc, ◌-◌, ◌*◌, ◌/◌, ◌%◌, ◌^◌, ◌<◌, ◌≤◌, ◌≢◌, sym, refl, ap, ◌∙◌, subst, inl, inr, arith}
use native.Mathlib.Decide.{dec_lt, ℕ_discrete}
use native.Mathlib.Nat.{two-pow-succ}
use lib.Bits.{bit_or, bit_and, bit_xor, or_shifted_r}
use Rattle.model.proofs.Joins.{joined_exactly}
use Rattle.std.proofs.lemmas.Nat.{pow_pos, one_shl, leading_top}
use Rattle.std.proofs.lemmas.Nat.Bits.{bit_at_and, bit_at_or, bit_at_xor, bit_at-zero, bit_at-pow_same, bit_at-pow_other, bit_at_ones, bit_at_above, bit_at-lt}
use lib.Count.{count_leading_zeros}
use Rattle.model.specs.Sets.{Bit, Has, nothing}
use Rattle.model.specs.declared.number_set.NumberSet.{NumberSet}
use Rattle.model.specs.Relations.{Joined, Exactly}

pub or_joined : (a b : ℕ) → Joined (Bit a) (Bit (bit_or a b)) (Bit b)
or_joined a b = record {
  keeps = λ t h. omega (arith, bit_at_or a b t, bit_at-lt b t);
  puts = λ t h. omega (arith, bit_at_or a b t, bit_at-lt a t);
  only = λ t h. elim (ℕ_discrete (a / 2 ^ t % 2) 1) [ yes p ↦ inl p | no n ↦ inr (omega (arith, bit_at_or a b t, bit_at-lt a t)) ];
}

pub bit_none : (t : ℕ) → Bit 0 t → ⊥
bit_none t h = omega (arith, bit_at-zero t)

pub has_none : (x : NumberSet) (t : ℕ) → x ≡ nothing → Has x t → ⊥
has_none x t e h = bit_none t (subst (λ y. Has y t) e h)

-- a set of numbers below w has no others
pub bit_below : (w n t : ℕ) → n < 2 ^ w → Bit n t → t < w
bit_below w n t fits h = elim (dec_lt t w) [ yes l ↦ l | no l ↦ absurd (omega (arith, bit_at_above n w t fits (omega arith))) ]

-- a set of one number
pub one_exact : (n s : ℕ) → n ≡ 2 ^ s → Exactly (Bit n) (λ t. t ≡ s)
one_exact n s e t = subst (λ m. (Bit m t → t ≡ s) × (t ≡ s → Bit m t)) (sym e) (
  λ h. elim (ℕ_discrete t s) [ yes q ↦ q | no ne ↦ absurd (omega (arith, bit_at-pow_other s t ne)) ],
  λ q. subst (Bit (2 ^ s)) (sym q) (bit_at-pow_same s),
)

-- a bit of a that b lacks
pub bit_minus : (a b t : ℕ) → (Bit (bit_xor a (bit_and a b)) t → Bit a t × (Bit b t → ⊥)) × (Bit a t × (Bit b t → ⊥) → Bit (bit_xor a (bit_and a b)) t)
bit_minus a b t =
    let x = bit_at_xor a (bit_and a b) t in
    let n = bit_at_and a b t in
    let l = bit_at-lt a t in
    let m = bit_at-lt b t in
    (λ h. (omega arith, λ y. omega arith), λ h. let k = h.0 in let none = h.1 in omega arith)

-- a number is its highest bit and the rest
module _ (a j : ℕ) (low : 2 ^ j ≤ a) (high : a < 2 ^ suc j) where
  pub top_joined : Joined (Bit (a - 2 ^ j)) (Bit a) (λ u. u ≡ j)
  top_joined =
      let fits : a - 2 ^ j < 2 ^ j = omega (arith, two-pow-succ j) in
      let e : bit_or (a - 2 ^ j) (1 * 2 ^ j) ≡ a = or_shifted_r 1 j (a - 2 ^ j) fits ∙ omega arith in
      let both : Joined (Bit (a - 2 ^ j)) (Bit a) (Bit (1 * 2 ^ j)) = subst (λ n. Joined (Bit (a - 2 ^ j)) (Bit n) (Bit (1 * 2 ^ j))) e (or_joined (a - 2 ^ j) (1 * 2 ^ j)) in
      joined_exactly (one_exact (1 * 2 ^ j) j (omega arith)) both

-- the highest bit as the program finds it
top_is : (a : ℕ) → 0 < a → a < 2 ^ 32 → (2 ^ (31 - count_leading_zeros 32 a) ≤ a) × (a < 2 ^ suc (31 - count_leading_zeros 32 a)) × ((1 * 2 ^ (31 - count_leading_zeros 32 a)) % 2 ^ 32 ≡ 2 ^ (31 - count_leading_zeros 32 a))
top_is a pos fits =
    let (j, is, low, high) = leading_top 32 a pos fits in
    let e : j ≡ 31 - count_leading_zeros 32 a = omega arith in
    subst (λ k. (2 ^ k ≤ a) × (a < 2 ^ suc k) × ((1 * 2 ^ k) % 2 ^ 32 ≡ 2 ^ k)) e (low, high, one_shl j 32 (omega arith))

pub top_le : (a : ℕ) → 0 < a → a < 2 ^ 32 → (1 * 2 ^ (31 - count_leading_zeros 32 a)) % 2 ^ 32 ≤ a
top_le a pos fits = let (low, high, is) = top_is a pos fits in omega arith

pub top_taken : (a : ℕ) → 0 < a → a < 2 ^ 32
    → (31 - count_leading_zeros 32 a < 32) × Joined (Bit (a - (1 * 2 ^ (31 - count_leading_zeros 32 a)) % 2 ^ 32)) (Bit a) (λ u. u ≡ 31 - count_leading_zeros 32 a) × (a - (1 * 2 ^ (31 - count_leading_zeros 32 a)) % 2 ^ 32 < a) × ((u : ℕ) → Bit (a - (1 * 2 ^ (31 - count_leading_zeros 32 a)) % 2 ^ 32) u → u < 31 - count_leading_zeros 32 a)
top_taken a pos fits =
    let (low, high, is) = top_is a pos fits in
    (omega arith, subst (λ n. Joined (Bit (a - n)) (Bit a) (λ u. u ≡ 31 - count_leading_zeros 32 a)) (sym is) (top_joined a (31 - count_leading_zeros 32 a) low high), omega (arith, pow_pos (31 - count_leading_zeros 32 a)), λ u h. bit_below (31 - count_leading_zeros 32 a) _ u (omega (arith, two-pow-succ (31 - count_leading_zeros 32 a))) h)

-- 2 ^ n - 1 has the bits below n
pub ones_exact : (n : ℕ) → Exactly (Bit (2 ^ n - 1)) (λ t. t < n)
ones_exact n t = (λ h. bit_below n (2 ^ n - 1) t (omega (arith, pow_pos n)) h, bit_at_ones n t)

pub shl_exact : (n w : ℕ) → n < w → Exactly (Bit ((1 * 2 ^ n) % 2 ^ w)) (λ t. t ≡ n)
shl_exact n w l = one_exact _ n (one_shl n w l)

-- a number that is not 0 has a bit
pub some_bit : (a : ℕ) → a ≢ 0 → a < 2 ^ 32 → (t : ℕ) × Bit a t
some_bit a some fits = (31 - count_leading_zeros 32 a, (top_taken a (omega arith) fits).1.puts _ refl)

-- a set with no bit is the empty one
pub empty_bits : (x : NumberSet) → x.bits ≡ 0 → x ≡ nothing
empty_bits x e = let f : ℕ → NumberSet = λ b. record { bits = b } in ap f e
