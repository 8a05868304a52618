-- More facts are a larger count, and no more facts the same.
use Rattle.std.proofs.Common.{◌≡◌, ℕ, zero, suc, ◌+◌, ◌*◌, ◌/◌, ◌%◌, ◌^◌, ◌<◌, ◌≤◌, List, [], ◌∷◌, length, get_or, replicate, sym, refl, ap, ◌∙◌, subst, inl, inr, ⊎_elim, le_of_eq, add_comm, add-one, arith}
use mathlib.Core.Path.{transport}
use native.Mathlib.Nat.{two-pow-succ}
use native.Mathlib.Decide.{dec_lt, ℕ_discrete}
use lib.Count.{ones, ones_step}
use Rattle.std.proofs.lemmas.Nat.{shr_below, pow_pos}
use Rattle.std.proofs.lemmas.Nat.Bits.{bit_at-suc, bit_at_lowest}
use Rattle.std.proofs.lemmas.List.{get_or_past}
use Rattle.std.specs.List.{sum_by}
use Rattle.std.proofs.lemmas.List.Sums.{sum_by-cons}
use Rattle.model.specs.declared.number_set.NumberSet.{NumberSet}
use Rattle.model.specs.Sets.{Bit, Has, nothing}
use Rattle.model.specs.Relations.{Joined, Exactly, Triple}
use Rattle.model.proofs.Tables.{get_d_copies}
use Rattle.triples.specs.Triples.{Holds, size, Lacking}
use Rattle.model.proofs.Bits.{has_none}

bit_half : (n t : ℕ) → Bit (n / 2) t ≡ Bit n (suc t)
bit_half n t = ap (λ k. k ≡ 1) (sym (bit_at-suc n t))

bit_odd : (n : ℕ) → Bit n 0 ≡ (n % 2 ≡ 1)
bit_odd n = ap (λ k. k ≡ 1) (bit_at_lowest n)

-- a number is below its power
below_pow : (a b : ℕ) → a < 2 ^ (a + b)
below_pow zero b = pow_pos (0 + b)
below_pow (suc a) b = let e : suc a + b ≡ suc (a + b) = omega arith in subst (λ k. suc a < 2 ^ k) (sym e) (omega (arith, below_pow a b, two-pow-succ (a + b)))

ones_subset : (k a b : ℕ) → a < 2 ^ k → b < 2 ^ k → ((t : ℕ) → Bit a t → Bit b t) → (ones a ≤ ones b) × (ones b ≤ ones a → (t : ℕ) → Bit b t → Bit a t)
ones_subset zero a b fa fb sub =
    let ea : a ≡ 0 = omega arith in let eb : b ≡ 0 = omega arith in let e : b ≡ a = omega arith in
    (le_of_eq (ap ones (sym e)), λ _ t h. subst (λ n. Bit n t) e h)
ones_subset (suc k) a b fa fb sub =
    let ih = ones_subset k (a / 2) (b / 2) (half_fits a fa) (half_fits b fb) (λ t h. transport (sym (bit_half b t)) (sub (suc t) (transport (bit_half a t) h))) in
    let low : a % 2 ≤ b % 2 = lower (ℕ_discrete (a % 2) 1) in
    let le = ih.0 in
    let sa = ones_step a in let sb = ones_step b in
    (omega arith, λ back. bits (ih.1 (omega arith)) (omega arith))
  where
    half_fits : (n : ℕ) → n < 2 ^ suc k → n / 2 < 2 ^ k
    half_fits n f = shr_below n k 1 (rw (add-one k) f)

    lower : Dec (a % 2 ≡ 1) → a % 2 ≤ b % 2
    lower (yes o) = let o' : b % 2 ≡ 1 = transport (bit_odd b) (sub 0 (transport (sym (bit_odd a)) o)) in omega arith
    lower (no o) = omega arith

    bits : ((t : ℕ) → Bit (b / 2) t → Bit (a / 2) t) → b % 2 ≤ a % 2 → (t : ℕ) → Bit b t → Bit a t
    bits up low zero h = let o = transport (bit_odd b) h in transport (sym (bit_odd a)) (omega arith)
    bits up low (suc t) h = transport (bit_half a t) (up t (transport (sym (bit_half b t)) h))

pub size_none : (rows : List NumberSet) → size rows 0 ≡ 0
unfolding size
size_none rows = refl

pub size_more : (rows : List NumberSet) (n : ℕ) → size rows (n + 1) ≡ size rows n + ones (get_or rows n nothing).bits
unfolding size
size_more rows n = rw add-one

-- the first row, and then the others
size_first : (row : NumberSet) (rows : List NumberSet) (n : ℕ) → size (row ∷ rows) (suc n) ≡ ones row.bits + size rows n
unfolding size
size_first row rows zero = omega arith
size_first row rows (suc n) = omega (arith, size_first row rows n)

-- the triples of all the rows are the sum of the rows' own
pub size_sum : (rows : List NumberSet) → size rows (length rows) ≡ sum_by (λ (row : NumberSet). ones row.bits) rows
unfolding size
size_sum [] = refl
size_sum (row ∷ rows) = omega (arith, size_first row rows (length rows), size_sum rows, sum_by-cons (λ (r : NumberSet). ones r.bits) row rows)

ones_zero : ones 0 ≡ 0
unfolding ones
ones_zero = refl

-- a table of empty rows has no fact
pub size_copies : (x : NumberSet) → x ≡ nothing → (m n : ℕ) → size (replicate m x) n ≡ 0
unfolding size
size_copies x e m zero = refl
size_copies x e m (suc n) =
    let row : get_or (replicate m x) n nothing ≡ nothing = subst (λ y. get_or (replicate m y) n nothing ≡ nothing) (sym e) (get_d_copies m nothing n) in
    let none : ones (get_or (replicate m x) n nothing).bits ≡ 0 = ap (λ (y : NumberSet). ones y.bits) row ∙ ones_zero in
    omega (arith, size_copies x e m n)

-- the rows of one are in those of the other
pub size_subset : (rows more : List NumberSet) (n : ℕ) → ((i t : ℕ) → i < n → Has (get_or rows i nothing) t → Has (get_or more i nothing) t) → (size rows n ≤ size more n) × (size more n ≤ size rows n → (i t : ℕ) → i < n → Has (get_or more i nothing) t → Has (get_or rows i nothing) t)
unfolding size
size_subset rows more zero sub = (omega arith, λ _ i t l. absurd (omega arith))
size_subset rows more (suc n) sub =
    let ih = size_subset rows more n (λ i t l. sub i t (omega arith)) in
    let a = (get_or rows n nothing).bits in let b = (get_or more n nothing).bits in
    let here = ones_subset (a + b) a b (below_pow a b) (subst (λ k. b < 2 ^ k) (add_comm b a) (below_pow b a)) (λ t. sub n t (omega arith)) in
    let le₁ = ih.0 in let le₂ = here.0 in
    (omega arith, λ back i t l h. go (ih.1 (omega arith)) (here.1 (omega arith)) i t l (ℕ_discrete i n) h)
  where
    go : ((i t : ℕ) → i < n → Has (get_or more i nothing) t → Has (get_or rows i nothing) t) → ((t : ℕ) → Has (get_or more n nothing) t → Has (get_or rows n nothing) t) → (i t : ℕ) → i < suc n → Dec (i ≡ n) → Has (get_or more i nothing) t → Has (get_or rows i nothing) t
    go up here i t l (yes e) h = subst (λ k. Has (get_or rows k nothing) t) (sym e) (here t (subst (λ k. Has (get_or more k nothing) t) e h))
    go up here i t l (no ne) h = up i t (omega arith) h

-- what holds of the rows of a table holds of its facts
module _ (rows : List NumberSet) (long : length rows ≡ 512) where
  pub row_there : (f : Triple) → Holds rows f → f.0 * 32 + f.1 < 512
  row_there f h = go (dec_lt (f.0 * 32 + f.1) 512)
    where
      go : Dec (f.0 * 32 + f.1 < 512) → f.0 * 32 + f.1 < 512
      go (yes l) = l
      go (no l) = let past : length rows ≤ f.0 * 32 + f.1 = omega arith in absurd (has_none _ f.2 (get_or_past rows (f.0 * 32 + f.1) nothing past) h.1)

module _ (rows more : List NumberSet) (long : length more ≡ 512) (sub : (f : Triple) → Holds rows f → Holds more f) where
  rows_in : (i t : ℕ) → i < 512 → Has (get_or rows i nothing) t → Has (get_or more i nothing) t
  rows_in i t l h =
      let e : i / 32 * 32 + i % 32 ≡ i = omega arith in
      subst (λ k. Has (get_or more k nothing) t) e (sub (i / 32, i % 32, t) (omega arith, subst (λ k. Has (get_or rows k nothing) t) (sym e) h)).1

  pub table_grows : size rows 512 ≤ size more 512
  table_grows = (size_subset rows more 512 rows_in).0

  pub table_same : size more 512 ≡ size rows 512 → (f : Triple) → Holds more f → Holds rows f
  table_same e f h = (h.0, (size_subset rows more 512 rows_in).1 (le_of_eq e) (f.0 * 32 + f.1) f.2 (row_there more long f h) h.1)

-- row by row, what the second lacks
pub lacking_all : (first second left : List NumberSet) → length first ≡ 512 → length left ≡ 512
    → ((k : ℕ) → k < 512 → Exactly (Has (get_or left k nothing)) (λ t. Has (get_or first k nothing) t × (Has (get_or second k nothing) t → ⊥))) → Exactly (Holds left) (Lacking (Holds first) (Holds second))
lacking_all first second left lf ll is f = (
  λ h. let m = (is (f.0 * 32 + f.1) (row_there left ll f h) f.2).0 h.1 in ((h.0, m.0), λ s. m.1 s.1),
  λ m. (m.0.0, (is (f.0 * 32 + f.1) (row_there first lf f m.0) f.2).1 (m.0.1, λ s. m.1 (m.0.0, s))),
)

-- row by row, the facts of both
pub joined_all : (first second both : List NumberSet) → length second ≡ 512 → length first ≡ 512 → length both ≡ 512
    → ((k : ℕ) → k < 512 → Joined (Has (get_or first k nothing)) (Has (get_or both k nothing)) (Has (get_or second k nothing))) → Joined (Holds first) (Holds both) (Holds second)
joined_all first second both ls lf lb is = record {
  keeps = λ f h. (h.0, (is _ (row_there first lf f h)).keeps f.2 h.1);
  puts = λ f h. (h.0, (is _ (row_there second ls f h)).puts f.2 h.1);
  only = λ f h. ⊎_elim (λ o. inl (h.0, o)) (λ n. inr (h.0, n)) ((is _ (row_there both lb f h)).only f.2 h.1);
}
