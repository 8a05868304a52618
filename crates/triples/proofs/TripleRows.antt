-- A set of triples that is filled row by row.
use Rattle.std.proofs.lemmas.Bool.{false≢true}
use Rattle.std.proofs.Common.{Bool, true, false, not, Decides, ◌≢◌, ◌≡◌, ℕ, ◌<◌, ◌⊎◌, List, sym, refl, subst, inl, inr, ⊎_elim, arith}
use native.Mathlib.Decide.{dec_lt, ℕ_discrete}
use Rattle.model.specs.declared.number_set.NumberSet.{NumberSet}
use Rattle.model.specs.Relations.{Joined, Exactly, Triple}
use Rattle.model.specs.Sets.{Has, nothing}
use Rattle.model.proofs.Bits.{has_none}
use Rattle.triples.specs.Triples.{row_of, Holds, InRow, Through}

pub holds_dec : (rows : List NumberSet) (f : Triple) → Dec (Holds rows f)
holds_dec rows f = go (dec_lt f.1 32) (ℕ_discrete _ 1)
  where
    go : Dec (f.1 < 32) → Dec (Has (row_of rows f.0 f.1) f.2) → Dec (Holds rows f)
    go (yes l) (yes h) = yes (l, h)
    go (yes l) (no n) = no (λ y. n y.1)
    go (no n) d = no (λ y. n y.0)

-- a row that has grown: of what is added only the more is new
pub row_grown : (rows : List NumberSet) (head s : ℕ) (row out : NumberSet) {Q : Triple → Type 0} (T : ℕ → Type 0) → s < 32 → row ≡ row_of rows head s → Joined (Has row) (Has out) T → Joined (Holds rows) Q (InRow head s (Has out)) → Joined (Holds rows) Q (InRow head s T)
row_grown rows head s row out T within is grown j = record {
  keeps = j.keeps;
  puts = λ f m. j.puts f (m.0, m.1, grown.puts f.2 m.2);
  only = λ f q. ⊎_elim inl (λ m. ⊎_elim (λ h. inl (there f m (subst (λ x. Has x f.2) is h))) (λ t. inr (m.0, m.1, t)) (grown.only f.2 m.2)) (j.only f q);
}
  where
    there : (f : Triple) → InRow head s (Has out) f → Has (row_of rows head s) f.2 → Holds rows f
    there f m h = (let e = m.1 in omega arith, subst (λ k. Has (row_of rows k f.1) f.2) (sym m.0) (subst (λ k. Has (row_of rows head k) f.2) (sym m.1) h))

-- through the states of a set, one after another
abbrev pub ReachedOr : NumberSet → NumberSet → List NumberSet → ℕ → ℕ → Type 0
ReachedOr reached from rows symbol t = Has reached t ⊎ Through (Has from) (Holds rows) symbol t

pub through_more : (rows : List NumberSet) (rest rest' reached reached' row : NumberSet) (symbol state : ℕ) {T : ℕ → Type 0} → state < 32 → row ≡ row_of rows symbol state
    → Joined (Has rest') (Has rest) (λ u. u ≡ state) → Joined (Has reached) (Has reached') (Has row)
    → Joined (Has reached) T (Through (Has rest) (Holds rows) symbol) → Joined (Has reached') T (Through (Has rest') (Holds rows) symbol)
through_more rows rest rest' reached reached' row symbol state l is taken more j = record {
  keeps = λ t h. ⊎_elim (j.keeps t) (λ r. j.puts t (state, taken.puts state refl, (l, subst (λ x. Has x t) is r))) (more.only t h);
  puts = λ t m. j.puts t (m.0, taken.keeps m.0 m.1, m.2);
  only = λ t m. ⊎_elim (λ h. inl (more.keeps t h)) (λ d. ⊎_elim (λ r. inr (d.0, r, d.2)) (λ e. inl (more.puts t (subst (λ x. Has x t) (sym is) (subst (λ u. Holds rows (symbol, u, t)) e d.2).1))) (taken.only d.0 d.1)) (j.only t m);
}

-- a first number has a triple where its set of second numbers is not empty
pub first_decided : (rows : List NumberSet) (x : ℕ) (row : NumberSet) (empty : Bool) → Exactly (Has row) (λ s. (s < 32) × (row_of rows x s ≢ nothing)) → Decides empty (row ≡ nothing) → (empty ≡ false → (t : ℕ) × Has row t)
    → Decides (not empty) ((s : ℕ) × (s < 32) × (row_of rows x s ≢ nothing))
first_decided rows x row true is none some = (λ never. absurd (false≢true never), λ (s, l, n). absurd (has_none row s (none.0 refl) ((is s).1 (l, n))))
first_decided rows x row false is none some = (λ _. let (s, h) = some refl in (s, ((is s).0 h).0, ((is s).0 h).1), λ _. refl)
