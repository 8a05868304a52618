-- Walks by a rule: put together, and taken apart.
use Rattle.std.proofs.Common.{◌≡◌, ℕ, List, [], ◌∷◌, ◌++◌, length, sym, refl, ap, subst, arith, length-append}
use Rattle.model.specs.declared.edge.Step.{Step}
use Rattle.model.specs.Relations.{Among, Triple}
use Rattle.language.specs.declared.rule.Rule.{Rule}
use Rattle.language.specs.declared.rule.Rule.TheVariants.{Empty, Letter, Lead, Same, Pair}
use Rattle.language.specs.Derivations.{Yields, Derives, DerivesWithin}
use Rattle.language.specs.Words.{Word}
use Rattle.language.proofs.Heights.{by_lead, by_same, by_pair}
use Rattle.logic.specs.Paths.{word}
use Rattle.logic.specs.Facts.{Ground, Guarded}
use Rattle.logic.proofs.GuardedPaths.{word_append, word_length, guarded_append, guarded_split, guarded_edge}
use Rattle.least.specs.Walks.{WalkWithin, Walk, GivesIn}

module _ (g : Ground) (rules : List Rule) where
  -- what a rule gives from walks is a walk
  pub walk_from : (r : Rule) (p : Triple) (n : ℕ) → Among r rules → GivesIn g r (Walk g rules) (Walk g rules) p n → Walk g rules p n
  walk_from (Empty H) p n r∈ (x, l, q, z) = ([], (l, q), (1, (_, r∈, (x, refl))), sym z)
  walk_from (Letter H a) p n r∈ (x, e, ld, et, z) =
      (record { action = e.action; state = e.to } ∷ [], guarded_edge g e p.1 p.2 [] ld.0 ld.1 ld.3 ((g.model.inside e ld.0).2, sym et), (1, (_, r∈, (x, ap (λ k. k ∷ []) ld.2))), sym z)
  walk_from (Lead H a B) p n r∈ (x, e, ld, j, (q, w, d, len), z) = (
    record { action = e.action; state = e.to } ∷ q,
    guarded_edge g e p.1 p.2 q ld.0 ld.1 ld.3 w,
    subst (λ k. Derives rules k (e.action ∷ word g.model q)) (sym x) (subst (λ k. Derives rules H (k ∷ word g.model q)) (sym ld.2) (by_lead rules H a B (word g.model q) r∈ d)),
    omega arith,
  )
  walk_from (Same H B) p n r∈ (x, (q, w, d, len)) = (q, w, subst (λ k. Derives rules k (word g.model q)) (sym x) (by_same rules H B (word g.model q) r∈ d), len)
  walk_from (Pair H B C) p n r∈ (x, u, i, j, (q₁, w₁, d₁, l₁), (q₂, w₂, d₂, l₂), z) = (
    q₁ ++ q₂,
    guarded_append g p.1 u p.2 q₁ q₂ w₁ w₂,
    subst (λ k. Derives rules k (word g.model (q₁ ++ q₂))) (sym x) (subst (Derives rules H) (sym (word_append g.model q₁ q₂)) (by_pair rules H B C (word g.model q₁) (word g.model q₂) r∈ d₁ d₂)),
    simp length-append (omega arith),
  )

  as_derived : (h X : ℕ) (v w : Word) → w ≡ v → DerivesWithin rules h X v → DerivesWithin rules h X w
  as_derived h X v w e d = subst (DerivesWithin rules h X) (sym e) d

  -- a walk of one height more is what a rule gives
  pub walk_to : (h : ℕ) (r : Rule) (p : Triple) (n : ℕ) (path : List Step) → Guarded g p.1 path p.2 → Yields r (DerivesWithin rules h) p.0 (word g.model path) → length path ≡ n
      → GivesIn g r (WalkWithin g rules h) (WalkWithin g rules h) p n
  walk_to h (Empty H) p n [] w y len = (y.0, w.0, w.1, sym len)
  walk_to h (Empty H) p n (x ∷ q) w y len = let e = y.1 in let z : ◌≡◌ {A = ℕ} 0 1 = cc in absurd (omega arith)
  walk_to h (Letter H a) p n [] w y len = let e = y.1 in let z : ◌≡◌ {A = ℕ} 0 1 = cc in absurd (omega arith)
  walk_to h (Letter H a) p n (x ∷ []) w y len = let e = y.1 in (y.0, _, (w.1, refl, (cc), w.0), sym w.2.1, sym len)
  walk_to h (Letter H a) p n (x ∷ (x' ∷ q)) w y len = let e = y.1 in let z : ◌≡◌ {A = ℕ} 0 1 = cc in absurd (omega arith)
  walk_to h (Lead H a B) p n [] w y len = let e = y.2 in let z : ◌≡◌ {A = ℕ} 0 1 = cc in absurd (omega arith)
  walk_to h (Lead H a B) p n (x ∷ q) w y len = let e = y.2 in (y.0, _, (w.1, refl, (cc), w.0), length q, (q, w.2, as_derived h B y.1 (word g.model q) (cc) y.3, refl), omega arith)
  walk_to h (Same H B) p n path w y len = (y.0, (path, w, y.1, len))
  walk_to h (Pair H B C) p n path w (x, u, v, e, d₁, d₂) len =
      let (k, p₁, p₂, g₁, g₂, w₁, w₂) = guarded_split g p.1 p.2 path u v w e in (
        x,
        k,
        length p₁,
        length p₂,
        (p₁, g₁, as_derived h B u (word g.model p₁) w₁ d₁, refl),
        (p₂, g₂, as_derived h C v (word g.model p₂) w₂ d₂, refl),
        omega (arith, word_length g.model path, word_length g.model p₁, word_length g.model p₂, ap length w₁, ap length w₂, simp length-append at (ap length e)),
      )
