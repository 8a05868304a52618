-- One more element in a row of a table of sets.
use Rattle.std.proofs.Common.{◌≡◌, ℕ, ◌<◌, ◌⊎◌, List, length, get_or, set, sym, refl, ap, ◌∙◌, subst, inl, inr, ⊎_elim}
use native.Mathlib.Decide.{ℕ_discrete}
use Rattle.std.proofs.lemmas.List.{get_or-set_same, get_or-set_other}
use Rattle.model.specs.declared.number_set.NumberSet.{NumberSet}
use Rattle.model.specs.Relations.{Joined, Exactly}
use Rattle.model.specs.Sets.{Has, nothing}
use Rattle.positions.specs.Pairs.{Holds}

pub pair_is : (p : ℕ × ℕ) (a b : ℕ) → p.0 ≡ a → p.1 ≡ b → ◌≡◌ {A = ℕ × ℕ} p (a, b)
pair_is p a b e f = let P : ℕ → ℕ → ℕ × ℕ = λ m n. (m, n) in ap (λ n. P n p.1) e ∙ ap (λ n. P a n) f

module _ (rows : List NumberSet) (k : ℕ) (row one : NumberSet) (n : ℕ) (room : k < length rows) (small : n < 32)
    (single : Exactly (Has one) (λ t. (t ≡ n) × (n < 32))) (joined : Joined (Has (get_or rows k nothing)) (Has row) (Has one)) where
  here : (t : ℕ) → Has row t → Has (get_or (set rows k row) k nothing) t
  here t h = subst (λ (x : NumberSet). Has x t) (sym (get_or-set_same rows k row nothing room)) h

  there : (t : ℕ) → Has (get_or (set rows k row) k nothing) t → Has row t
  there t h = subst (λ (x : NumberSet). Has x t) (get_or-set_same rows k row nothing room) h

  pub row_keeps : (i t : ℕ) → Has (get_or rows i nothing) t → Has (get_or (set rows k row) i nothing) t
  row_keeps i t h = go (ℕ_discrete i k)
    where
      go : Dec (i ≡ k) → Has (get_or (set rows k row) i nothing) t
      go (yes e) = subst (λ j. Has (get_or (set rows k row) j nothing) t) (sym e) (here t (joined.keeps t (subst (λ j. Has (get_or rows j nothing) t) e h)))
      go (no ne) = subst (λ (x : NumberSet). Has x t) (sym (get_or-set_other rows k i row nothing ne)) h

  pub row_puts : Has (get_or (set rows k row) k nothing) n
  row_puts = here n (joined.puts n ((single n).1 (refl, small)))

  pub row_only : (i t : ℕ) → Has (get_or (set rows k row) i nothing) t → Has (get_or rows i nothing) t ⊎ ((i ≡ k) × (t ≡ n))
  row_only i t h = go (ℕ_discrete i k)
    where
      go : Dec (i ≡ k) → Has (get_or rows i nothing) t ⊎ ((i ≡ k) × (t ≡ n))
      go (yes e) = ⊎_elim (λ o. inl (subst (λ j. Has (get_or rows j nothing) t) (sym e) o)) (λ o. inr (e, ((single t).0 o).0)) (joined.only t (there t (subst (λ j. Has (get_or (set rows k row) j nothing) t) e h)))
      go (no ne) = inl (subst (λ (x : NumberSet). Has x t) (get_or-set_other rows k i row nothing ne) h)

  -- a pair is added
  pub pair_added : Joined (Holds rows) (Holds (set rows k row)) (λ p. p ≡ (n, k))
  pair_added = record {
    keeps = λ p h. row_keeps p.1 p.0 h;
    puts = λ p e. subst (Holds (set rows k row)) (sym e) row_puts;
    only = λ p h. ⊎_elim inl (λ m. inr (pair_is p n k m.1 m.0)) (row_only p.1 p.0 h);
  }
