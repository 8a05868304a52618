-- A work table of which the places of a set are written.
use Rattle.std.proofs.Common.{◌≡◌, ℕ, ◌+◌, ◌*◌, ◌/◌, ◌%◌, ◌<◌, ◌≤◌, ◌⊎◌, List, length, get_or, set, sym, refl, ap, ◌∙◌, subst, inl, inr, ⊎_elim, add-mul, arith, get_or-set_other, get_or-set_same}
use native.Mathlib.Decide.{dec_lt, ℕ_discrete}
use Rattle.std.proofs.lemmas.Nat.{div-add-mod', div-mul-add, mod-mul-add, mod_below, mul-le}
use Rattle.model.specs.declared.number_set.NumberSet.{NumberSet}
use Rattle.model.specs.Sets.{Has}
use Rattle.model.specs.Relations.{Triple, Joined}
use Rattle.logic.specs.Layouts.{spot}
use Rattle.logic.proofs.Layouts.{place_of, spot_place}
use Rattle.until.specs.Notes.{Written}
use Rattle.triples.specs.Triples.{row_of, Holds, TriplesBelow}

pub written_none : (P : ℕ → Type 0) (v : ℕ) (ws : List ℕ) → ((k : ℕ) → P k → ⊥) → Written P v ws ws
written_none P v ws none k = inr (none k, refl)

-- the same places in other words
pub written_like : (P Q : ℕ → Type 0) (v : ℕ) (before after : List ℕ) → ((k : ℕ) → P k → Q k) → ((k : ℕ) → Q k → P k) → Written P v before after → Written Q v before after
written_like P Q v before after to from w k = elim (w k) [ inl y ↦ inl (to k y.0, y.1) | inr n ↦ inr ((λ q. n.0 (from k q)), n.1) ]

-- first these places, then those
pub written_both : (P Q : ℕ → Type 0) (v : ℕ) (before mid after : List ℕ) → Written P v before mid → Written Q v mid after → Written (λ k. P k ⊎ Q k) v before after
written_both P Q v before mid after a b k = go (a k) (b k)
  where
    go : (P k × (get_or mid k 0 ≡ v)) ⊎ ((P k → ⊥) × (get_or mid k 0 ≡ get_or before k 0)) → (Q k × (get_or after k 0 ≡ v)) ⊎ ((Q k → ⊥) × (get_or after k 0 ≡ get_or mid k 0)) → ((P k ⊎ Q k) × (get_or after k 0 ≡ v)) ⊎ ((P k ⊎ Q k → ⊥) × (get_or after k 0 ≡ get_or before k 0))
    go x (inl y) = inl (inr y.0, y.1)
    go (inl x) (inr y) = inl (inl x.0, y.1 ∙ x.1)
    go (inr x) (inr y) = inr (⊎_elim x.0 y.0, y.1 ∙ x.1)

-- one place
pub written_one : (i v : ℕ) (ws : List ℕ) → i < length ws → Written (λ k. k ≡ i) v ws (set ws i v)
written_one i v ws l k = elim (ℕ_discrete k i) [
  | yes e ↦ inl (e, subst (λ j. get_or (set ws i v) j 0 ≡ v) (sym e) (get_or-set_same ws i v 0 l))
  | no n ↦ inr (n, get_or-set_other ws i k v 0 n)
]

-- one place more
pub written_more : (P Q : ℕ → Type 0) (i v : ℕ) (before ws : List ℕ) → i < length ws → ((k : ℕ) → P k → Q k) → Q i → ((k : ℕ) → Q k → P k ⊎ (k ≡ i)) → Written P v before ws → Written Q v before (set ws i v)
written_more P Q i v before ws l up here only w =
    written_like (λ k. P k ⊎ (k ≡ i)) Q v before (set ws i v) (λ k. ⊎_elim (up k) (λ e. subst Q (sym e) here)) only (written_both P (λ k. k ≡ i) v before ws (set ws i v) w (written_one i v ws l))

-- the places of one row
module _ (n x s : ℕ) (rows : List NumberSet) (row : NumberSet) {m : ℕ} (small : n ≤ 32) (within : s < n) (is_row : row ≡ row_of rows x s) (below : TriplesBelow m n (Holds rows)) where
  pub row_to_below : (t : ℕ) → Has row t → t < n
  row_to_below t h = (below (x, s, t) (omega arith, subst (λ y. Has y t) is_row h)).2

  line_to : (k : ℕ) → (t : ℕ) × (k ≡ (x * n + s) * n + t) × Has row t → (k / n / n ≡ x) × (k / n % n ≡ s) × Holds rows (spot n k)
  line_to k (t, e, h) =
      let same : spot n k ≡ (x, s, t) = ap (spot n) e ∙ spot_place n (x, s, t) within (row_to_below t h) in
      let there : Holds rows (x, s, t) = (omega arith, subst (λ y. Has y t) is_row h) in
      (ap (λ (f : Triple). f.0) same, ap (λ (f : Triple). f.1) same, subst (Holds rows) (sym same) there)

  line_from : (k : ℕ) → (k / n / n ≡ x) × (k / n % n ≡ s) × Holds rows (spot n k) → (t : ℕ) × (k ≡ (x * n + s) * n + t) × Has row t
  line_from k (e₁, e₂, h) =
      let there = subst (λ y. Holds rows (x, y, k % n)) e₂ (subst (λ y. Holds rows (y, k / n % n, k % n)) e₁ h) in
      (k % n, place_of n x s k e₁ e₂, subst (λ y. Has y (k % n)) (sym is_row) there.1)

  -- after this row those of the from-states up to s are written
  pub row_written : (v : ℕ) (before mid after : List ℕ) → Written (λ k. (k / n / n ≡ x) × (k / n % n < s) × Holds rows (spot n k)) v before mid → Written (λ k. (t : ℕ) × (k ≡ (x * n + s) * n + t) × Has row t) v mid after
      → Written (λ k. (k / n / n ≡ x) × (k / n % n < s + 1) × Holds rows (spot n k)) v before after
  row_written v before mid after a b = written_like _ _ v before after
      (λ k. ⊎_elim (λ m. (m.0, omega (arith, m.1), m.2)) (λ d. let m = line_to k d in (m.0, omega (arith, m.1), m.2)))
      (λ k m. elim (dec_lt (k / n % n) s) [ yes l ↦ inl (m.0, l, m.2) | no l ↦ inr (line_from k (m.0, omega (arith, m.1), m.2)) ])
      (written_both _ _ v before mid after a b)

-- after this symbol those up to it are written
pub symbol_written : (n x : ℕ) (H : ℕ → Type 0) (v : ℕ) (before mid after : List ℕ) → Written (λ k. (k / n / n < x) × H k) v before mid → Written (λ k. (k / n / n ≡ x) × H k) v mid after → Written (λ k. (k / n / n < x + 1) × H k) v before after
symbol_written n x H v before mid after a b = written_like _ _ v before after
    (λ k. ⊎_elim (λ m. (omega (arith, m.0), m.1)) (λ m. (omega (arith, m.0), m.1)))
    (λ k m. elim (dec_lt (k / n / n) x) [ yes l ↦ inl (l, m.1) | no l ↦ inr (omega (arith, m.0), m.1) ])
    (written_both _ _ v before mid after a b)

-- one number more of a set is written
pub number_written : (base v to : ℕ) (whole rest rest' : NumberSet) (before ws : List ℕ) → base + to < length ws → ((t : ℕ) → Has rest t → Has whole t)
    → Joined (Has rest') (Has rest) (λ u. u ≡ to) → ((u : ℕ) → Has rest' u → u < to)
    → Written (λ k. (t : ℕ) × (k ≡ base + t) × Has whole t × (Has rest t → ⊥)) v before ws
    → Written (λ k. (t : ℕ) × (k ≡ base + t) × Has whole t × (Has rest' t → ⊥)) v before (set ws (base + to) v)
number_written base v to whole rest rest' before ws l in_whole taken lower w = written_more _ _ (base + to) v before ws l
    (λ k m. (m.0, m.1, m.2, λ h. m.3 (taken.keeps m.0 h)))
    (to, refl, in_whole to (taken.puts to refl), λ h. let y = lower to h in omega arith)
    (λ k m. elim (ℕ_discrete _ 1) [
      | yes h ↦ ⊎_elim (λ y. absurd (m.3 y)) (λ e. inr (m.1 ∙ ap (λ t. base + t) e)) (taken.only m.0 h)
      | no h ↦ inl (m.0, m.1, m.2, h)
    ])
    w
