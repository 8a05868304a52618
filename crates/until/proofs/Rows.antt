-- A table that is filled row by row.
use Rattle.std.proofs.Common.{Bool, true, false, not, Decides, ◌≡◌, ℕ, ◌<◌, ◌≤◌, List, length, Some, sym, refl, ◌∙◌, subst, inl, arith}
use mathlib.Core.Bool.{false≢true}
use Rattle.std.specs.List.{slice_get}
use Rattle.model.specs.declared.edge.Edge.{Edge}
use Rattle.model.specs.declared.number_set.NumberSet.{NumberSet}
use Rattle.model.specs.Relations.{Among, Joined, Upto, Exactly, Triple}
use Rattle.model.specs.Sets.{Bit, Has, nothing}
use Rattle.model.proofs.Bits.{has_none}
use Rattle.model.proofs.Joins.{joined_like, same_place, place_before}
use Rattle.until.specs.Consequences.{StartingAt, ByEmpty, BySame, ByPair}
use Rattle.triples.specs.Triples.{row_of, Holds, InRow, Through}

-- all the rows are done
pub rows_all : {P Q : Triple → Type 0} (D : Triple → Type 0) (n : ℕ) → ((f : Triple) → D f → f.1 < n) → Joined P Q (Upto (λ s. StartingAt D s) n) → Joined P Q D
rows_all D n below j = joined_like _ _ (λ f m. m.2.1) (λ f d. (f.1, below f d, (refl, d))) j

-- one row of what a pair rule gives; of the middle states those with no fact on may be left out
module _ (rows seconds : List NumberSet) (head left right s : ℕ) (starts middle : NumberSet) (within : s < 32)
    (is_starts : Exactly (Has starts) (λ u. (u < 32) × (row_of seconds right u ≡ nothing → ⊥)))
    (is_middle : Exactly (Has middle) (λ u. Has (row_of rows left s) u × Has starts u)) where
  pair_to : (f : Triple) → InRow head s (Through (Has middle) (Holds seconds) right) f → StartingAt (ByPair head left right (Holds rows) (Holds seconds)) s f
  pair_to f (h, e, m) =
      (e, (h, m.0, subst (λ k. Holds rows (left, k, m.0)) (sym e) (within, ((is_middle m.0).0 m.1).0), m.2))

  pair_from : (f : Triple) → StartingAt (ByPair head left right (Holds rows) (Holds seconds)) s f → InRow head s (Through (Has middle) (Holds seconds) right) f
  pair_from f (e, d) =
      let there = subst (λ k. Holds rows (left, k, d.1)) e d.2 in
      let start = (is_starts d.1).1 (d.3.0, λ none. has_none _ f.2 none d.3.1) in
      (d.0, e, (d.1, (is_middle d.1).1 (there.1, start), d.3))

  pub pair_row : {P Q : Triple → Type 0} → Joined P Q (InRow head s (Through (Has middle) (Holds seconds) right)) → Joined P Q (StartingAt (ByPair head left right (Holds rows) (Holds seconds)) s)
  pair_row j = joined_like _ _ pair_to pair_from j

-- a row with every state gains nothing
pub row_full : (rows : List NumberSet) (head s n : ℕ) (row every : NumberSet) (D : Triple → Type 0) → s < 32 → n ≤ 32 → row ≡ row_of rows head s → row.bits ≡ every.bits → Exactly (Has every) (λ t. (t < n) × (t < 32))
    → ((f : Triple) → D f → (f.0 ≡ head) × (f.2 < n)) → Joined (Holds rows) (Holds rows) (StartingAt D s)
row_full rows head s n row every D within few is all states inside = record {
  keeps = λ f h. h;
  puts = λ f (e, d).
      let (h, l) = inside f d in
      let there : Has row f.2 = subst (λ k. Bit k f.2) (sym all) ((states f.2).1 (l, omega arith)) in
      (omega arith, subst (λ k. Has (row_of rows k f.1) f.2) (sym h) (subst (λ k. Has (row_of rows head k) f.2) (sym e) (subst (λ y. Has y f.2) is there)));
  only = λ f h. inl h;
}

module _ (states head s : ℕ) (one : NumberSet) (within : s < states) (small : s < 32) (is_one : Exactly (Has one) (λ t. (t ≡ s) × (s < 32))) where
  empty_to : (f : Triple) → InRow head s (Has one) f → StartingAt (ByEmpty states head) s f
  empty_to f (h, e, o) = (e, (h, omega arith, e ∙ sym ((is_one f.2).0 o).0))

  empty_from : (f : Triple) → StartingAt (ByEmpty states head) s f → InRow head s (Has one) f
  empty_from f (e, d) = (d.0, e, (is_one f.2).1 (sym d.2 ∙ e, small))

  pub empty_row : {P Q : Triple → Type 0} → Joined P Q (InRow head s (Has one)) → Joined P Q (StartingAt (ByEmpty states head) s)
  empty_row j = joined_like _ _ empty_to empty_from j

module _ (rows : List NumberSet) (head body s : ℕ) (out : NumberSet) (within : s < 32) (is_out : out ≡ row_of rows body s) where
  same_to : (f : Triple) → InRow head s (Has out) f → StartingAt (BySame head body (Holds rows)) s f
  same_to f (h, e, o) = (e, (h, subst (λ k. Holds rows (body, k, f.2)) (sym e) (within, subst (λ x. Has x f.2) is_out o)))

  same_from : (f : Triple) → StartingAt (BySame head body (Holds rows)) s f → InRow head s (Has out) f
  same_from f (e, d) = (d.0, e, subst (λ x. Has x f.2) (sym is_out) (subst (λ k. Holds rows (body, k, f.2)) e d.1).1)

  pub same_row : {P Q : Triple → Type 0} → Joined P Q (InRow head s (Has out)) → Joined P Q (StartingAt (BySame head body (Holds rows)) s)
  same_row j = joined_like _ _ same_to same_from j

-- what one edge adds
module _ (edges : List Edge) (i : ℕ) (edge : Edge) (here : slice_get edges i ≡ Some edge) (head : ℕ) (out : NumberSet) (L : Edge → ℕ → Type 0) (is_out : Exactly (Has out) (L edge)) where
  pub edge_more : {P Q : Triple → Type 0} → Joined P Q (InRow head edge.from (Has out)) → Joined P Q (λ f. (e : Edge) × (slice_get edges i ≡ Some e) × InRow head e.from (L e) f)
  edge_more j = joined_like _ _
      (λ f m. (edge, here, (m.0, m.1, (is_out f.2).0 m.2)))
      (λ f m. let m' = subst (λ e. InRow head e.from (L e) f) (same_place edges i m.0 edge m.1 here) m.2 in (m'.0, m'.1, (is_out f.2).1 m'.2)) j

-- all the elements are done
pub among_all : {X Y : Type 0} {P Q : Y → Type 0} (xs : List X) (n : ℕ) (D : X → Y → Type 0) → length xs ≤ n → Joined P Q (Upto (λ k p. (x : X) × (slice_get xs k ≡ Some x) × D x p) n) → Joined P Q (λ p. (x : X) × Among x xs × D x p)
among_all xs n D done j = joined_like _ _
    (λ p m. (m.2.0, (m.0, m.2.1), m.2.2))
    (λ p m. (m.1.0, omega (arith, place_before xs m.1.0 m.0 m.1.1), (m.0, m.1.1, m.2))) j

-- some state of a row is in the goal where their common set is not empty
pub met_decided : (rows : List NumberSet) (x s : ℕ) (goal row met : NumberSet) (empty : Bool) → s < 32 → row ≡ row_of rows x s → Exactly (Has met) (λ t. Has row t × Has goal t) → Decides empty (met ≡ nothing) → (empty ≡ false → (t : ℕ) × Has met t)
    → Decides (not empty) ((t : ℕ) × Holds rows (x, s, t) × Has goal t)
met_decided rows x s goal row met true l is both none some = (λ never. absurd (false≢true never), λ (t, h, k). absurd (has_none met t (none.0 refl) ((both t).1 (subst (λ y. Has y t) (sym is) h.1, k))))
met_decided rows x s goal row met false l is both none some = (λ _. let (t, h) = some refl in let m = (both t).0 h in (t, (l, subst (λ y. Has y t) is m.0), m.1), λ _. refl)
