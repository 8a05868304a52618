-- More pairs are a larger count, and no larger a count the same pairs.
use Rattle.std.proofs.Common.{◌≡◌, ℕ, zero, suc, ◌+◌, ◌-◌, ◌*◌, ◌/◌, ◌%◌, ◌^◌, ◌<◌, ◌≤◌, List, [], ◌∷◌, get_or, sym, subst, mul-le-mul_right, suc-mul, arith}
use native.Mathlib.Decide.{dec_lt, ℕ_discrete}
use lib.Count.{ones, ones-le}
use Rattle.std.proofs.lemmas.Nat.{pow_pos}
use Rattle.model.specs.declared.number_set.NumberSet.{NumberSet}
use Rattle.model.specs.Sets.{Has, nothing}
use Rattle.triples.specs.Triples.{size}
use Rattle.model.proofs.Bits.{ones_exact}
use Rattle.triples.proofs.TripleSizes.{size_none, size_more, size_subset}
use Rattle.positions.specs.Pairs.{Holds}

-- a set of numbers below S has S at most
ones_few : (S : ℕ) (x : NumberSet) → ((t : ℕ) → Has x t → t < S) → ones x.bits ≤ S
ones_few S x below =
    let full : NumberSet = record { bits = 2 ^ S - 1 } in
    let few = (size_subset (x ∷ []) (full ∷ []) (0 + 1) (λ i t l h. let e : i ≡ 0 = omega arith in subst (λ k. Has (get_or (full ∷ []) k nothing) t) (sym e) ((ones_exact S t).1 (below t (subst (λ k. Has (get_or (x ∷ []) k nothing) t) e h))))).0 in
    omega (arith, few, size_none (x ∷ []), size_none (full ∷ []), size_more (x ∷ []) 0, size_more (full ∷ []) 0, ones-le S (2 ^ S - 1) (omega (arith, pow_pos S)))

-- S states in each of the first Q rows at most
pub size_few : (S Q : ℕ) (rows : List NumberSet) → ((p : ℕ × ℕ) → Holds rows p → (p.0 < S) × (p.1 < Q)) → (n : ℕ) → (size rows n ≤ n * S) × (size rows n ≤ Q * S)
unfolding size
size_few S Q rows b zero = (omega arith, omega arith)
size_few S Q rows b (suc n) = go (size_few S Q rows b n) (dec_lt n Q)
  where
    go : (size rows n ≤ n * S) × (size rows n ≤ Q * S) → Dec (n < Q) → (size rows n + ones (get_or rows n nothing).bits ≤ suc n * S) × (size rows n + ones (get_or rows n nothing).bits ≤ Q * S)
    go (l, m) (yes h) =
        let here = ones_few S (get_or rows n nothing) (λ t x. (b (t, n) x).0) in
        (omega (arith, suc-mul n S), omega (arith, suc-mul n S, mul-le-mul_right {m = suc n} {n = Q} S h))
    go (l, m) (no h) =
        let here = ones_few 0 (get_or rows n nothing) (λ t x. absurd (omega (arith, (b (t, n) x).1))) in
        (omega (arith, suc-mul n S), omega arith)

module _ (rows more : List NumberSet) (sub : (p : ℕ × ℕ) → Holds rows p → Holds more p) where
  pub table_grows : size rows 32 ≤ size more 32
  table_grows = (size_subset rows more 32 (λ i t l. sub (t, i))).0

  pub table_same : size more 32 ≤ size rows 32 → (p : ℕ × ℕ) → p.1 < 32 → Holds more p → Holds rows p
  table_same e p l h = (size_subset rows more 32 (λ i t l. sub (t, i))).1 e p.1 p.0 l h

pub holds_dec : (rows : List NumberSet) (p : ℕ × ℕ) → Dec (Holds rows p)
holds_dec rows p = ℕ_discrete ((get_or rows p.1 nothing).bits / 2 ^ p.0 % 2) 1

pub has_dec : (x : NumberSet) (s : ℕ) → Dec (Has x s)
has_dec x s = ℕ_discrete (x.bits / 2 ^ s % 2) 1
