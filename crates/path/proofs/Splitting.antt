-- Ways to a fact from facts with fewer steps, and that there is one.
use Rattle.std.proofs.Common.{◌≡◌, ℕ, zero, suc, ◌+◌, ◌-◌, ◌<◌, ◌≤◌, List, [], ◌∷◌, length, sym, refl, ◌∙◌, subst, inl, inr, ⊎_elim, append-nil, arith}
use native.Mathlib.Decide.{ℕ_discrete}
use Rattle.model.specs.declared.edge.Edge.{Edge}
use Rattle.model.specs.declared.edge.Step.{Step}
use Rattle.model.specs.declared.number_set.NumberSet.{NumberSet}
use Rattle.model.specs.Models.{HasEdge}
use Rattle.model.specs.Relations.{Among, Joined, Triple}
use Rattle.model.specs.Sets.{Has}
use Rattle.language.specs.declared.rule.Rule.{Rule}
use Rattle.language.specs.declared.rule.Rule.TheVariants.{Empty, Letter, Lead, Same, Pair}
use Rattle.language.specs.Rules.{head_of, SymbolsBelow, RulesWithin, BySome}
use Rattle.language.specs.Words.{Word}
use Rattle.language.specs.Derivations.{Derives}
use Rattle.logic.specs.Paths.{word}
use Rattle.logic.specs.Facts.{Guarded}
use Rattle.least.specs.declared.table.Table.{Table}
use Rattle.least.specs.Walks.{WalkWithin, GivesIn}
use Rattle.least.specs.Entries.{ground_of, entry_of, In, Known, Sound, Closed}
use Rattle.language.proofs.Heights.{by_lead, by_same, by_pair}
use Rattle.least.proofs.Walking.{walk_to}
use Rattle.least.proofs.Least.{least_known}
use Rattle.path.specs.declared.split.Split.{Split}
use Rattle.path.specs.declared.split.Split.TheVariants.{Last, Onward, Both}
use Rattle.path.specs.Unfolding.{Splits, StepsBy, Sums}
use Rattle.path.specs.Reaching.{Keeps, Reached, ReachShut, NoShorter}

-- a path of no steps stays where it is, and its symbol derives the empty word
pub still : (rules : List Rule) (w : Table) → Sound rules w → (p : Triple) → Known w p 0 → (p.1 ≡ p.2) × Derives rules p.0 []
still rules w sound p kn = let (path, g, d, len) = sound p 0 kn in go path g d len
  where
    go : (path : List Step) → Guarded (ground_of w.scope) p.1 path p.2 → Derives rules p.0 (word w.scope.ground.now.model path) → length path ≡ 0 → (p.1 ≡ p.2) × Derives rules p.0 []
    go [] g d len = (g.1, d)
    go (x ∷ path) g d len = absurd (omega arith)

module _ (rules : List Rule) (w : Table) where
  pub letter_last : (H a s t n : ℕ) (e : Edge) → Among (Letter H a) rules → n ≡ 1 → HasEdge w.scope.ground.now.model e → StepsBy w.scope.ground.now.guard a s t e → Splits rules w (record { symbol = H; from = s; to = t }) n (Last a t)
  letter_last H a s t n e r∈ z e∈ (f, ea, et, g) = (z, refl, e, (e∈, f, ea, g), et, (1, (_, r∈, (refl, refl))))

  pub lead_last : (H a B s t via n : ℕ) (e : Edge) → Sound rules w → Among (Lead H a B) rules → n ≡ 1 → HasEdge w.scope.ground.now.model e → StepsBy w.scope.ground.now.guard a s via e → In w.scope (B, via, t) → entry_of w (B, via, t) ≡ 1
      → Splits rules w (record { symbol = H; from = s; to = t }) n (Last a t)
  lead_last H a B s t via n e sound r∈ z e∈ (f, ea, et, g) i is =
      let both = still rules w sound (B, via, t) (record { there = i; is = omega arith }) in
      (z, refl, e, (e∈, f, ea, g), et ∙ both.0, by_lead rules H a B [] r∈ both.1)

  pub lead_onward : (H a B s t via n : ℕ) (e : Edge) → Among (Lead H a B) rules → 1 < n → HasEdge w.scope.ground.now.model e → StepsBy w.scope.ground.now.guard a s via e → In w.scope (B, via, t) → entry_of w (B, via, t) ≡ n
      → Splits rules w (record { symbol = H; from = s; to = t }) n (Onward a via B)
  lead_onward H a B s t via n e r∈ l e∈ (f, ea, et, g) i is =
      (e, (e∈, f, ea, g), et, n - 1, omega arith, omega arith, record { there = i; is = omega arith }, λ v d. by_lead rules H a B v r∈ d)

  pub pair_both : (H B C s t u n : ℕ) → Among (Pair H B C) rules → In w.scope (B, s, u) → In w.scope (C, u, t) → Sums w B C s t (n + 1) u → Splits rules w (record { symbol = H; from = s; to = t }) n (Both B u C)
  pair_both H B C s t u n r∈ i₁ i₂ (a, b, d) =
      let e₁ = entry_of w (B, s, u) in
      (e₁ - 1, n + 1 - e₁, omega arith, omega arith, omega arith, record { there = i₁; is = omega arith }, record { there = i₂; is = omega arith }, λ v x d₁ d₂. by_pair rules H B C v x r∈ d₁ d₂)

module _ (rules : List Rule) (w : Table) (sound : Sound rules w) (s t : ℕ) (ls : s < w.scope.states) (lt : t < w.scope.states) where
  -- what a rule keeps
  keeps_derives : (e : ℕ) (r : Rule) (y : ℕ) → Among r rules → SymbolsBelow w.scope.symbols r → Keeps w s t e r y → (y < w.scope.symbols) × (entry_of w (y, s, t) ≡ e) × ((v : Word) → Derives rules y v → Derives rules (head_of r) v)
  keeps_derives e (Empty H) y r∈ wi d = absurd d
  keeps_derives e (Letter H a) y r∈ wi d = absurd d
  keeps_derives e (Lead H a B) y r∈ wi d = absurd d
  keeps_derives e (Same H B) y r∈ wi (q, is) =
      (subst (λ z. z < w.scope.symbols) (sym q) wi.1, subst (λ z. entry_of w (z, s, t) ≡ e) (sym q) is, λ v d. by_same rules H B v r∈ (subst (λ z. Derives rules z v) q d))
  keeps_derives e (Pair H B C) y r∈ wi (inl (q, z, is)) =
      let empty = (still rules w sound (B, s, s) (record { there = record { symbol = wi.1; from = ls; to = ls }; is = omega arith })).1 in
      (subst (λ z. z < w.scope.symbols) (sym q) wi.2, subst (λ z. entry_of w (z, s, t) ≡ e) (sym q) is, λ v d. by_pair rules H B C [] v r∈ empty (subst (λ z. Derives rules z v) q d))
  keeps_derives e (Pair H B C) y r∈ wi (inr (q, z, is)) =
      let empty = (still rules w sound (C, t, t) (record { there = record { symbol = wi.2; from = lt; to = lt }; is = omega arith })).1 in
      (subst (λ z. z < w.scope.symbols) (sym q) wi.1, subst (λ z. entry_of w (z, s, t) ≡ e) (sym q) is, λ v d. subst (Derives rules H) (append-nil v) (by_pair rules H B C v [] r∈ (subst (λ z. Derives rules z v) q d) empty))

  pub reached_more : (e X : ℕ) (mask more : NumberSet) → RulesWithin w.scope.symbols rules → Reached rules w s t e X mask
      → Joined (Has mask) (Has more) (BySome (λ x y. Has mask (head_of x) × Keeps w s t e x y) rules) → Reached rules w s t e X more
  reached_more e X mask more in_rules old j = record {
    first = j.keeps X old.first;
    every = λ y h. ⊎_elim (old.every y) (λ (x, x∈, (hm, kp)). let (l, is, up) = keeps_derives e x y x∈ (in_rules x x∈) kp in (l, is, λ v d. (old.every (head_of x) hm).2 v (up v d))) (j.only y h);
  }

  -- a symbol of the mask has a way from facts with fewer steps
  module _ (top n X : ℕ) (mask : NumberSet) (pos : 0 < n) (low : n < top) (in_rules : RulesWithin w.scope.symbols rules) (closed : Closed rules top w)
      (reached : Reached rules w s t (n + 1) X mask) (shut : ReachShut rules w s t (n + 1) mask) (none : (r : Rule) → Among r rules → NoShorter w s t (n + 1) mask r) where
    part : (h : ℕ) (q : Triple) (j : ℕ) → q.0 < w.scope.symbols → j < top → WalkWithin (ground_of w.scope) rules h q j → (i : ℕ) × (i ≤ j) × Known w q i
    part h q j l j< f = least_known w rules top in_rules closed h q j l j< f

    -- no rule gives the head fewer steps
    at_least : (r : Rule) (i : ℕ) → Among r rules → i < top → Has mask (head_of r) → GivesIn (ground_of w.scope) r (Known w) (Known w) (head_of r, s, t) i → n ≤ i
    at_least r i r∈ i< hm d = let a = closed r (head_of r, s, t) i r∈ i< d in omega (arith, a.low, (reached.every (head_of r) hm).1)

    stays : (x y : ℕ) (path : List Step) → Guarded (ground_of w.scope) x path y → length path ≡ 0 → x ≡ y
    stays x y [] g l = g.1
    stays x y (z ∷ p) g l = absurd (omega arith)

    by : (h : ℕ) → ((y : ℕ) → Has mask y → WalkWithin (ground_of w.scope) rules h (y, s, t) n → ⊥) → (r : Rule) (y : ℕ) → Among r rules → SymbolsBelow w.scope.symbols r → Has mask y → GivesIn (ground_of w.scope) r (WalkWithin (ground_of w.scope) rules h) (WalkWithin (ground_of w.scope) rules h) (y, s, t) n → ⊥
    by h ih (Empty H) y r∈ wi hm (x, a, b, z) = omega arith
    by h ih (Letter H a) y r∈ wi hm (x, e, ld, et, z) = none (Letter H a) r∈ (subst (Has mask) x hm) n refl (refl, e, ld, et, z)
    by h ih (Lead H a B) y r∈ wi hm (x, e, ld, j, f, z) =
        let (i, l, kn) = part h (B, e.to, t) j wi.1 (omega arith) f in
        let b = at_least (Lead H a B) (i + 1) r∈ (omega arith) (subst (Has mask) x hm) (refl, e, ld, i, kn, refl) in
        none (Lead H a B) r∈ (subst (Has mask) x hm) n refl (refl, e, ld, i, (kn, omega arith), omega arith)
    by h ih (Same H B) y r∈ wi hm (x, f) =
        let (i, l, kn) = part h (B, s, t) n wi.1 low f in
        let b = at_least (Same H B) i r∈ (omega arith) (subst (Has mask) x hm) (refl, kn) in
        ih B (shut (Same H B) B r∈ (subst (Has mask) x hm) (refl, omega (arith, kn.is))) f
    by h ih (Pair H B C) y r∈ wi hm (x, u, i, j, f₁, f₂, z) =
        let (i', l₁, k₁) = part h (B, s, u) i wi.1 (omega arith) f₁ in
        let (j', l₂, k₂) = part h (C, u, t) j wi.2 (omega arith) f₂ in
        let b = at_least (Pair H B C) (i' + j') r∈ (omega arith) (subst (Has mask) x hm) (refl, u, i', j', k₁, k₂, refl) in
        go i' j' k₁ k₂ (omega arith) (omega arith) (ℕ_discrete i 0) (ℕ_discrete j 0)
      where
        go : (i' j' : ℕ) → Known w (B, s, u) i' → Known w (C, u, t) j' → i' ≡ i → j' ≡ j → Dec (i ≡ 0) → Dec (j ≡ 0) → ⊥
        go i' j' k₁ k₂ e₁ e₂ (yes zi) d =
            let us : u ≡ s = sym (stays s u f₁.0 f₁.1 (f₁.3 ∙ zi)) in
            let a : entry_of w (B, s, s) ≡ 1 = subst (λ y. entry_of w (B, s, y) ≡ 1) us (omega (arith, k₁.is)) in
            let b : entry_of w (C, s, t) ≡ n + 1 = subst (λ y. entry_of w (C, y, t) ≡ n + 1) us (omega (arith, k₂.is)) in
            let jn : j ≡ n = omega arith in
            ih C (shut (Pair H B C) C r∈ (subst (Has mask) x hm) (inl (refl, a, b))) (subst (λ y. WalkWithin (ground_of w.scope) rules h (C, y, t) n) us (subst (WalkWithin (ground_of w.scope) rules h (C, u, t)) jn f₂))
        go i' j' k₁ k₂ e₁ e₂ (no ni) (yes zj) =
            let us : u ≡ t = stays u t f₂.0 f₂.1 (f₂.3 ∙ zj) in
            let a : entry_of w (C, t, t) ≡ 1 = subst (λ y. entry_of w (C, y, t) ≡ 1) us (omega (arith, k₂.is)) in
            let b : entry_of w (B, s, t) ≡ n + 1 = subst (λ y. entry_of w (B, s, y) ≡ n + 1) us (omega (arith, k₁.is)) in
            let jn : i ≡ n = omega arith in
            ih B (shut (Pair H B C) B r∈ (subst (Has mask) x hm) (inr (refl, a, b))) (subst (λ y. WalkWithin (ground_of w.scope) rules h (B, s, y) n) us (subst (WalkWithin (ground_of w.scope) rules h (B, s, u)) jn f₁))
        go i' j' k₁ k₂ e₁ e₂ (no ni) (no nj) = none (Pair H B C) r∈ (subst (Has mask) x hm) n refl (refl, u, i', j', (k₁, omega arith), (k₂, omega arith), omega arith)

    pub stuck : (h : ℕ) (y : ℕ) → Has mask y → WalkWithin (ground_of w.scope) rules h (y, s, t) n → ⊥
    stuck zero y hm f = f.2
    stuck (suc h) y hm f = by h (stuck h) f.2.0 y f.2.1 (in_rules f.2.0 f.2.1) hm (walk_to (ground_of w.scope) rules h f.2.0 (y, s, t) n f.0 f.1 f.2.2 f.3)

-- the same way for a symbol that derives as much
pub splits_from : (rules : List Rule) (w : Table) (X y s t n : ℕ) → ((v : Word) → Derives rules y v → Derives rules X v) → (sp : Split)
    → Splits rules w (record { symbol = y; from = s; to = t }) n sp → Splits rules w (record { symbol = X; from = s; to = t }) n sp
splits_from rules w X y s t n up (Last a u) (z, q, e, ld, et, d) = (z, q, e, ld, et, up _ d)
splits_from rules w X y s t n up (Onward a u B) (e, ld, et, j, p, z, kn, d) = (e, ld, et, j, p, z, kn, λ v dv. up _ (d v dv))
splits_from rules w X y s t n up (Both B u C) (i, j, p, q, z, k₁, k₂, d) = (i, j, p, q, z, k₁, k₂, λ v x dv dx. up _ (d v x dv dx))
