-- Guarded paths: their ends, how they are put together and taken apart, and when they are good.
use Rattle.std.proofs.Common.{◌≡◌, ℕ, suc, ◌<◌, List, [], ◌∷◌, ◌++◌, length, sym, refl, ap, subst, arith}
use Rattle.model.specs.declared.edge.Edge.{Edge}
use Rattle.model.specs.declared.edge.Step.{Step}
use Rattle.model.specs.declared.model.Model.{Model}
use Rattle.model.specs.Models.{HasEdge}
use Rattle.model.specs.Sets.{Has}
use Rattle.language.specs.Words.{Word}
use Rattle.logic.specs.Paths.{edge, Chain, end, word, Before, Good, SomeGood}
use Rattle.logic.specs.Facts.{Ground, Guarded}

-- the word of two paths, one after the other
pub word_append : (m : Model) (p q : List Step) → word m (p ++ q) ≡ word m p ++ word m q
word_append m [] q = refl
word_append m (x ∷ p) q = ap (λ w. x.action ∷ w) (word_append m p q)

-- a path has as many steps as its word has actions
pub word_length : (m : Model) (p : List Step) → length (word m p) ≡ length p
word_length m [] = refl
word_length m (x ∷ p) = ap suc (word_length m p)

module _ (g : Ground) where
  pub guarded_start : (s t : ℕ) (p : List Step) → Guarded g s p t → s < g.model.states
  guarded_start s t [] w = w.0
  guarded_start s t (x ∷ p) w = (g.model.inside (edge s x) w.1).0

  pub guarded_end : (s t : ℕ) (p : List Step) → Guarded g s p t → t < g.model.states
  guarded_end s t [] w = let l = w.0 in let e = w.1 in omega arith
  guarded_end s t (x ∷ p) w = guarded_end x.state t p w.2

  pub guarded_append : (s u t : ℕ) (p q : List Step) → Guarded g s p u → Guarded g u q t → Guarded g s (p ++ q) t
  guarded_append s u t [] q (l, e) w = subst (λ k. Guarded g k q t) (sym e) w
  guarded_append s u t (x ∷ p) q (h, x∈, f) w = (h, x∈, guarded_append x.state u t p q f w)

  -- a path whose word is in two parts is in two parts
  pub guarded_split : (s t : ℕ) (p : List Step) (u v : Word) → Guarded g s p t → word g.model p ≡ u ++ v
      → (k : ℕ) × (p₁ : List Step) × (p₂ : List Step) × Guarded g s p₁ k × Guarded g k p₂ t × (word g.model p₁ ≡ u) × (word g.model p₂ ≡ v)
  guarded_split s t p [] v w e = (s, [], p, (guarded_start s t p w, refl), w, refl, e)
  guarded_split s t [] (a ∷ u) v w e = let z : ◌≡◌ {A = ℕ} 0 1 = cc in absurd (omega arith)
  guarded_split s t (x ∷ p) (a ∷ u) v (h, x∈, f) e =
      let e₁ : x.action ≡ a = cc in
      let e₂ : word g.model p ≡ u ++ v = cc in
      let (k, p₁, p₂, g₁, g₂, w₁, w₂) = guarded_split x.state t p u v f e₂ in
      (k, x ∷ p₁, p₂, (h, x∈, g₁), g₂, (cc), w₂)

  -- an edge first, and then the rest of a path
  pub guarded_edge : (e : Edge) (s t : ℕ) (q : List Step) → HasEdge g.model e → s ≡ e.from → Has g.guard e.from → Guarded g e.to q t → Guarded g s (record { action = e.action; state = e.to } ∷ q) t
  guarded_edge e s t q e∈ f h rest = (subst (Has g.guard) (sym f) h, subst (λ k. HasEdge g.model (record { from = k; action = e.action; to = e.to })) (sym f) e∈, rest)

  -- a guarded path is a chain with the guard before its end
  pub guarded_chain : (s t : ℕ) (p : List Step) → Guarded g s p t → Chain g.model s p
  guarded_chain s t [] w = tt
  guarded_chain s t (x ∷ p) w = (w.1, guarded_chain x.state t p w.2)

  pub guarded_before : (s t : ℕ) (p : List Step) → Guarded g s p t → Before (Has g.guard) s p
  guarded_before s t [] w = tt
  guarded_before s t (x ∷ p) w = (w.0, guarded_before x.state t p w.2)

  pub guarded_ends : (s t : ℕ) (p : List Step) → Guarded g s p t → end s p ≡ t
  guarded_ends s t [] w = w.1
  guarded_ends s t (x ∷ p) w = guarded_ends x.state t p w.2

  -- and the other way
  pub chain_guarded : (s : ℕ) (p : List Step) → s < g.model.states → Chain g.model s p → Before (Has g.guard) s p → Guarded g s p (end s p)
  chain_guarded s [] l c b = (l, refl)
  chain_guarded s (x ∷ p) l c b = (b.0, c.0, chain_guarded x.state p (g.model.inside (edge s x) c.0).2 c.1 b.1)

  -- guarded paths into the goal are the good ones
  pub guarded_good : (H : ℕ → Type 0) (W : Word → Type 0) (s t : ℕ) (p : List Step) → Guarded g s p t → H t → W (word g.model p) → Good g.model (Has g.guard) H W s p
  guarded_good H W s t p w h d = record {
    path = guarded_chain s t p w;
    guarded = guarded_before s t p w;
    ends = subst H (sym (guarded_ends s t p w)) h;
    spells = d;
  }

  pub good_guarded : (H : ℕ → Type 0) (W : Word → Type 0) (s : ℕ) (p : List Step) → s < g.model.states → Good g.model (Has g.guard) H W s p → Guarded g s p (end s p)
  good_guarded H W s p l good = chain_guarded s p l good.path good.guarded

-- a good path for one set of words is good for a larger one
pub good_words : (m : Model) (G H : ℕ → Type 0) (V W : Word → Type 0) → ((w : Word) → V w → W w) → (s : ℕ) → SomeGood m G H V s → SomeGood m G H W s
good_words m G H V W up s (p, good) = (p, record { path = good.path; guarded = good.guarded; ends = good.ends; spells = up _ good.spells })
