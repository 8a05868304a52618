-- A doomed pair: every maximal path breaks the release.
use Rattle.std.proofs.Common.{◌≡◌, ℕ, zero, suc, ◌<◌, ◌≤◌, true, [], ◌∷◌, sym, refl, subst, inl, inr, ⊎_elim, suc-le-suc, arith}
use Rattle.model.specs.declared.edge.Step.{Step}
use Rattle.model.specs.declared.model.Model.{Model}
use Rattle.model.specs.Models.{HasEdge}
use Rattle.language.specs.Tables.{Table, step, run}
use Rattle.logic.specs.Paths.{edge, end, word}
use Rattle.logic.specs.Maximal.{Maximal, stopped, endless, Moment, before, Dead, Keeps, BreaksAt}
use Rattle.walks.specs.Releases.{MarkedFrom, Bad, DoomedWithin}

-- a maximal path has no step, or a first one and a maximal path after it
pub data First {model : Model} {s : ℕ} (π : Maximal model s) : Type 0 where
  here : Dead model s → First π
  then : (x : Step) → HasEdge model (edge s x) → (ρ : Maximal model x.state) → ((n : ℕ) → before π (suc n) ≡ x ∷ before ρ n) → ((n : ℕ) → Moment ρ n → Moment π (suc n)) → First π

pub split : {model : Model} {s : ℕ} (π : Maximal model s) → First π
split (stopped [] c d) = here d
split (stopped (x ∷ p) c d) = then x c.0 (stopped p c.1 d) (λ n. refl) (λ n l. suc-le-suc l)
split (endless f c) = then (f 0) (c 1).0 (endless (λ k. f (suc k)) (λ n. (c (suc n)).1)) (λ n. refl) (λ n u. tt)

pub before_none : {model : Model} {s : ℕ} (π : Maximal model s) → before π 0 ≡ []
before_none (stopped p c d) = refl
before_none (endless f c) = refl

pub moment_none : {model : Model} {s : ℕ} (π : Maximal model s) → Moment π 0
moment_none (stopped p c d) = omega arith
moment_none (endless f c) = tt

module _ (model : Model) (t : Table) (F K : ℕ → Type 0) where
  breaks_here : (s q : ℕ) (π : Maximal model s) → Bad t K s q → BreaksAt F K (MarkedFrom t q) π 0
  breaks_here s q π b =
      (moment_none π, subst (λ p. t.marked (run t q (word model p)) ≡ true) (sym (before_none π)) b.0, subst (λ p. K (end s p) → ⊥) (sym (before_none π)) b.1, λ k l. absurd (omega arith))

  pub doomed_breaks : (h s q : ℕ) → DoomedWithin model t F K h s q → (π : Maximal model s) → (n : ℕ) × (n < h) × BreaksAt F K (MarkedFrom t q) π n
  doomed_breaks zero s q b π = absurd b
  doomed_breaks (suc h) s q (inl b) π = (0, omega arith, breaks_here s q π b)
  doomed_breaks (suc h) s q (inr (free, (x₀, e₀), all)) π = go (λ x e. doomed_breaks h x.state (step t q x.action) (all x e)) (split π)
    where
      go : ((x : Step) → HasEdge model (edge s x) → (ρ : Maximal model x.state) → (n : ℕ) × (n < h) × BreaksAt F K (MarkedFrom t (step t q x.action)) ρ n) → First π → (n : ℕ) × (n < suc h) × BreaksAt F K (MarkedFrom t q) π n
      go later (here d) = absurd (d x₀ e₀)
      go later (then x e ρ is mo) =
          let (n, l, (m, mk, nk, nf)) = later x e ρ in
          (suc n, suc-le-suc l, (mo n m, subst (λ p. t.marked (run t q (word model p)) ≡ true) (sym (is n)) mk, subst (λ p. K (end s p) → ⊥) (sym (is n)) nk, early n nf))
        where
          early : (n : ℕ) → ((k : ℕ) → k < n → F (end x.state (before ρ k)) → ⊥) → (k : ℕ) → k < suc n → F (end s (before π k)) → ⊥
          early n nf zero l f = free (subst (λ p. F (end s p)) (before_none π) f)
          early n nf (suc k) l f = nf k (omega arith) (subst (λ p. F (end s p)) (is k) f)

  pub doomed_more : (h j s q : ℕ) → h ≤ j → DoomedWithin model t F K h s q → DoomedWithin model t F K j s q
  doomed_more zero zero s q l d = d
  doomed_more zero (suc j) s q l d = absurd d
  doomed_more (suc h) zero s q l d = absurd (omega arith)
  doomed_more (suc h) (suc j) s q l (inl b) = inl b
  doomed_more (suc h) (suc j) s q l (inr (free, out, all)) = inr (free, out, λ x e. doomed_more h j x.state (step t q x.action) (omega arith) (all x e))

  -- what breaks is not kept
  pub breaks_not_keeps : {s : ℕ} (q n : ℕ) (π : Maximal model s) → BreaksAt F K (MarkedFrom t q) π n → Keeps F K (MarkedFrom t q) π → ⊥
  breaks_not_keeps q n π (m, mk, nk, nf) keeps = ⊎_elim nk (λ f. nf f.0 f.1 f.2) (keeps n m mk)
