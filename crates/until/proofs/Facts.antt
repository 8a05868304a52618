-- Facts by height: one height more is what the rules give from the facts of the height before.
use Rattle.std.proofs.Common.{◌≡◌, ℕ, zero, suc, ◌+◌, ◌<◌, ◌≤◌, ◌⊎◌, List, [], ◌∷◌, ◌++◌, sym, refl, ap, ◌∙◌, subst, inl, inr, ⊎_elim, add-one, arith}
use native.Mathlib.Decide.{dec_le, ℕ_discrete}
use Rattle.model.specs.declared.edge.Step.{Step}
use Rattle.model.specs.Relations.{Among, Joined, Exactly, Triple}
use Rattle.language.specs.Words.{Word}
use Rattle.language.specs.declared.rule.Rule.{Rule}
use Rattle.language.specs.declared.rule.Rule.TheVariants.{Empty, Letter, Lead, Same, Pair}
use Rattle.language.specs.Rules.{SymbolsBelow, RulesWithin}
use Rattle.language.specs.Derivations.{Yields, DerivesWithin}
use Rattle.language.proofs.Heights.{within_more}
use Rattle.logic.specs.Paths.{word}
use Rattle.logic.specs.Facts.{Ground, Guarded, FactWithin, Fact, LeastHeight}
use Rattle.until.specs.Consequences.{Gives, GivesAlone, GivesFresh, ByRules, ByRulesAlone, ByRulesFresh}
use Rattle.logic.proofs.GuardedPaths.{word_append, guarded_start, guarded_end, guarded_append, guarded_split, guarded_edge}
use Rattle.triples.specs.Triples.{Lacking, TriplesBelow}

-- more facts give more
pub gives_mono : (g : Ground) (r : Rule) (F G : Triple → Type 0) → ((f : Triple) → F f → G f) → (f : Triple) → Gives g r F f → Gives g r G f
gives_mono g (Empty H) F G up f d = d
gives_mono g (Letter H a) F G up f d = d
gives_mono g (Lead H a B) F G up f (e, e∈, (x, y, (q, h, b))) = (e, e∈, (x, y, (q, h, up _ b)))
gives_mono g (Same H B) F G up f (x, b) = (x, up _ b)
gives_mono g (Pair H B C) F G up f (x, u, b, d) = (x, u, up _ b, up _ d)

-- what a rule gives alone it gives from any facts
pub alone_gives : (g : Ground) (r : Rule) (F : Triple → Type 0) (f : Triple) → GivesAlone g r f → Gives g r F f
alone_gives g (Empty H) F f d = d
alone_gives g (Letter H a) F f d = d
alone_gives g (Lead H a B) F f d = absurd d
alone_gives g (Same H B) F f d = absurd d
alone_gives g (Pair H B C) F f d = absurd d

-- from no facts a rule gives only what it gives alone
pub gives_alone : (g : Ground) (r : Rule) (F : Triple → Type 0) → ((f : Triple) → F f → ⊥) → (f : Triple) → Gives g r F f → GivesAlone g r f
gives_alone g (Empty H) F none f d = d
gives_alone g (Letter H a) F none f d = d
gives_alone g (Lead H a B) F none f d = absurd (none _ d.2.2.2)
gives_alone g (Same H B) F none f d = absurd (none _ d.1)
gives_alone g (Pair H B C) F none f d = absurd (none _ d.2)

-- what a rule gives with a fresh part it gives
pub fresh_gives : (g : Ground) (r : Rule) (F N : Triple → Type 0) → ((f : Triple) → N f → F f) → (f : Triple) → GivesFresh g r F N f → Gives g r F f
fresh_gives g (Empty H) F N up f d = absurd d
fresh_gives g (Letter H a) F N up f d = absurd d
fresh_gives g (Lead H a B) F N up f (e, e∈, (x, y, (q, h, b))) = (e, e∈, (x, y, (q, h, up _ b)))
fresh_gives g (Same H B) F N up f (x, b) = (x, up _ b)
fresh_gives g (Pair H B C) F N up f d = ⊎_elim (λ y. (y.0, y.1, up _ y.2, y.3)) (λ y. (y.0, y.1, y.2, up _ y.3)) d

-- what a rule gives, it gives from the old facts alone or with a fresh part
pub gives_split : (g : Ground) (r : Rule) (F G N : Triple → Type 0) → ((f : Triple) → G f → F f ⊎ N f) → (f : Triple) → Gives g r G f → Gives g r F f ⊎ GivesFresh g r G N f
gives_split g (Empty H) F G N s f d = inl d
gives_split g (Letter H a) F G N s f d = inl d
gives_split g (Lead H a B) F G N s f (e, e∈, (x, y, (q, h, b))) = ⊎_elim (λ o. inl (e, e∈, (x, y, (q, h, o)))) (λ n. inr (e, e∈, (x, y, (q, h, n)))) (s _ b)
gives_split g (Same H B) F G N s f (x, b) = ⊎_elim (λ o. inl (x, o)) (λ n. inr (x, n)) (s _ b)
gives_split g (Pair H B C) F G N s f (x, u, b, d) = ⊎_elim (λ o. ⊎_elim (λ o'. inl (x, u, o, o')) (λ n. inr (inr (x, u, b, n))) (s _ d)) (λ n. inr (inl (x, u, n, d))) (s _ b)

yields_head : (n : ℕ) (r : Rule) (F : ℕ → Word → Type 0) (X : ℕ) (w : Word) → SymbolsBelow n r → Yields r F X w → X < n
yields_head n (Empty H) F X w l y = let e = y.0 in omega arith
yields_head n (Letter H a) F X w l y = let e = y.0 in omega arith
yields_head n (Lead H a B) F X w l y = let e = y.0 in omega arith
yields_head n (Same H B) F X w l y = let e = y.0 in omega arith
yields_head n (Pair H B C) F X w l y = let e = y.0 in omega arith

module _ (g : Ground) (rules : List Rule) where
  -- symbol and states of a fact are there
  pub fact_below : (n h : ℕ) → RulesWithin n rules → TriplesBelow n g.model.states (FactWithin g rules h)
  fact_below n zero within f (p, w, d) = absurd d
  fact_below n (suc h) within f (p, w, (r, r∈, y)) =
      (yields_head n r _ f.0 _ (within r r∈) y, guarded_start g f.1 f.2 p w, guarded_end g f.1 f.2 p w)

  pub exact_below : (n h : ℕ) (F : Triple → Type 0) → RulesWithin n rules → Exactly F (FactWithin g rules h) → TriplesBelow n g.model.states F
  exact_below n h F within is f y = fact_below n h within f ((is f).0 y)

  pub lacking_below : (n h : ℕ) (F G : Triple → Type 0) → RulesWithin n rules → Exactly F (Lacking (FactWithin g rules h) G) → TriplesBelow n g.model.states F
  lacking_below n h F G within is f y = fact_below n h within f ((is f).0 y).0

  -- what a rule gives from facts is a fact
  pub fact_from : (h : ℕ) (r : Rule) (f : Triple) → Among r rules → Gives g r (FactWithin g rules h) f → FactWithin g rules (suc h) f
  fact_from h (Empty H) f r∈ (e, l, q) = ([], (l, q), (_, r∈, (e, refl)))
  fact_from h (Letter H a) f r∈ (e, e∈, (x, y, (ea, k, et))) =
      (record { action = e.action; state = e.to } ∷ [], guarded_edge g e f.1 f.2 [] e∈ y k ((g.model.inside e e∈).2, sym et), (_, r∈, (x, ap (λ k. k ∷ []) ea)))
  fact_from h (Lead H a B) f r∈ (e, e∈, (x, y, (ea, k, (q, w, d)))) =
      (record { action = e.action; state = e.to } ∷ q, guarded_edge g e f.1 f.2 q e∈ y k w, (_, r∈, (x, word g.model q, ap (λ k. k ∷ word g.model q) ea, d)))
  fact_from h (Same H B) f r∈ (x, (q, w, d)) = (q, w, (_, r∈, (x, d)))
  fact_from h (Pair H B C) f r∈ (x, u, (q₁, w₁, d₁), (q₂, w₂, d₂)) =
      (q₁ ++ q₂, guarded_append g f.1 u f.2 q₁ q₂ w₁ w₂, (_, r∈, (x, word g.model q₁, word g.model q₂, word_append g.model q₁ q₂, d₁, d₂)))

  as_derived : (h X : ℕ) (v w : Word) → w ≡ v → DerivesWithin rules h X v → DerivesWithin rules h X w
  as_derived h X v w e d = subst (DerivesWithin rules h X) (sym e) d

  -- a fact of one height more is what a rule gives
  pub fact_to : (h : ℕ) (r : Rule) (f : Triple) (p : List Step) → Guarded g f.1 p f.2 → Yields r (DerivesWithin rules h) f.0 (word g.model p) → Gives g r (FactWithin g rules h) f
  fact_to h (Empty H) f [] w y = (y.0, w.0, w.1)
  fact_to h (Empty H) f (x ∷ q) w y = let e = y.1 in let z : ◌≡◌ {A = ℕ} 0 1 = cc in absurd (omega arith)
  fact_to h (Letter H a) f [] w y = let e = y.1 in let z : ◌≡◌ {A = ℕ} 0 1 = cc in absurd (omega arith)
  fact_to h (Letter H a) f (x ∷ []) w y = let e = y.1 in (_, w.1, (y.0, refl, ((cc), w.0, sym w.2.1)))
  fact_to h (Letter H a) f (x ∷ (x' ∷ q)) w y = let e = y.1 in let z : ◌≡◌ {A = ℕ} 0 1 = cc in absurd (omega arith)
  fact_to h (Lead H a B) f [] w y = let e = y.2 in let z : ◌≡◌ {A = ℕ} 0 1 = cc in absurd (omega arith)
  fact_to h (Lead H a B) f (x ∷ q) w y = let e = y.2 in (_, w.1, (y.0, refl, ((cc), w.0, (q, w.2, as_derived h B y.1 (word g.model q) (cc) y.3))))
  fact_to h (Same H B) f p w y = (y.0, (p, w, y.1))
  fact_to h (Pair H B C) f p w (x, u, v, e, d₁, d₂) =
      let (k, p₁, p₂, g₁, g₂, w₁, w₂) = guarded_split g f.1 f.2 p u v w e in
      (x, k, (p₁, g₁, as_derived h B u (word g.model p₁) w₁ d₁), (p₂, g₂, as_derived h C v (word g.model p₂) w₂ d₂))

  -- one height more is what the rules give
  pub height_more : (h : ℕ) → Exactly (FactWithin g rules (suc h)) (ByRules g rules (FactWithin g rules h))
  height_more h f = (λ w. (w.2.0, w.2.1, fact_to h w.2.0 f w.0 w.1 w.2.2), λ d. fact_from h d.0 f d.1 d.2)

  -- a fact of some height has every greater height
  pub facts_keep : (h : ℕ) (f : Triple) → FactWithin g rules h f → FactWithin g rules (suc h) f
  facts_keep h f w = (w.0, w.1, within_more rules h f.0 (word g.model w.0) w.2)

  pub facts_up : (j h : ℕ) (f : Triple) → j ≤ h → FactWithin g rules j f → FactWithin g rules h f
  facts_up j zero f l w = let e : j ≡ 0 = omega arith in subst (λ k. FactWithin g rules k f) e w
  facts_up j (suc h) f l w = go (ℕ_discrete j (suc h)) (dec_le j h) (λ l'. facts_up j h f l' w)
    where
      go : Dec (j ≡ suc h) → Dec (j ≤ h) → (j ≤ h → FactWithin g rules h f) → FactWithin g rules (suc h) f
      go (yes e) d up = subst (λ k. FactWithin g rules k f) e w
      go (no n) (yes l') up = facts_keep h f (up l')
      go (no n) (no n') up = absurd (omega arith)

  -- facts of height 1
  pub first_height : Exactly (FactWithin g rules (0 + 1)) (ByRulesAlone g rules)
  first_height f = (
    λ w. let d = (height_more 0 f).0 w in (d.0, d.1, gives_alone g d.0 _ (λ x y. absurd y.2) f d.2),
    λ d. (height_more 0 f).1 (d.0, d.1, alone_gives g d.0 _ f d.2),
  )

  -- the facts that a height has and the one before lacks
  abbrev pub New : ℕ → Triple → Type 0
  New h = Lacking (FactWithin g rules (h + 1)) (FactWithin g rules h)

  pub first_new : (N : Triple → Type 0) → Exactly N (ByRulesAlone g rules) → Exactly N (New 0)
  first_new N is f = (λ n. ((first_height f).1 ((is f).0 n), λ w. w.2), λ w. (is f).1 ((first_height f).0 w.0))

  -- all facts of a height and what is new in the next are all of the next
  pub height_joined : (h : ℕ) (F N G : Triple → Type 0) → ((f : Triple) → Dec (F f)) → Exactly F (FactWithin g rules h) → Exactly N (New h) → Joined F G N → Exactly G (FactWithin g rules (h + 1))
  height_joined h F N G decided is new j f = (
    λ y. ⊎_elim (λ o. facts_up h (h + 1) f (omega arith) ((is f).0 o)) (λ n. ((new f).0 n).0) (j.only f y),
    λ w. elim (decided f) [ yes o ↦ j.keeps f o | no o ↦ j.puts f ((new f).1 (w, λ y. o ((is f).1 y))) ],
  )

  -- what a round adds is all that is new in the height after
  pub next_new : (h : ℕ) (F N G : Triple → Type 0) (M : Triple → Type 0) (D : Triple → Type 0) → Exactly F (FactWithin g rules h) → Joined F G N → Exactly G (FactWithin g rules (h + 1))
      → Joined G M (ByRulesFresh g rules G N) → Exactly D (Lacking M G) → Exactly D (New (h + 1))
  next_new h F N G M D is j all found new f = (
    λ d. let (m, o) = (new f).0 d in
        (up (⊎_elim (λ y. absurd (o y)) (λ y. (height_more (h + 1) f).1 (y.0, y.1, gives_mono g y.0 _ _ (λ q. (all q).0) f (fresh_gives g y.0 G N j.puts f y.2))) (found.only f m)), λ w. o ((all f).1 w)),
    λ w. let d = (height_more (h + 1) f).0 (down w.0) in
        (new f).1 (
          ⊎_elim (λ old. absurd (w.1 (plus ((height_more h f).1 (d.0, d.1, gives_mono g d.0 _ _ (λ q. (is q).0) f old))))) (λ y. found.puts f (d.0, d.1, y))
              (gives_split g d.0 F G N j.only f (gives_mono g d.0 _ _ (λ q. (all q).1) f d.2)),
          λ y. w.1 ((all f).0 y),
        ),
  )
    where
      up : FactWithin g rules (suc (h + 1)) f → FactWithin g rules (h + 1 + 1) f
      up = subst (λ k. FactWithin g rules k f) (sym (add-one (h + 1)))

      down : FactWithin g rules (h + 1 + 1) f → FactWithin g rules (suc (h + 1)) f
      down = subst (λ k. FactWithin g rules k f) (add-one (h + 1))

      plus : FactWithin g rules (suc h) f → FactWithin g rules (h + 1) f
      plus = subst (λ k. FactWithin g rules k f) (sym (add-one h))

  -- where one height adds nothing, none above does
  settled_at : (h k : ℕ) → ((f : Triple) → FactWithin g rules (suc h) f → FactWithin g rules h f) → (f : Triple) → FactWithin g rules k f → FactWithin g rules h f
  settled_at h zero settled f w = absurd w.2
  settled_at h (suc k) settled f w =
      let d = (height_more k f).0 w in
      settled f ((height_more h f).1 (d.0, d.1, gives_mono g d.0 _ _ (settled_at h k settled) f d.2))

  pub settled_all : (h : ℕ) (F G : Triple → Type 0) → Exactly F (FactWithin g rules h) → Exactly G (FactWithin g rules (h + 1)) → ((f : Triple) → G f → F f) → ((f : Triple) → F f → G f) → Exactly G (Fact g rules)
  settled_all h F G is all same back f = (
    λ y. let w = (is f).0 (same f y) in (w.0, w.1, (h, w.2)),
    λ w. back f ((is f).1 (settled_at h w.2.0 (λ q d. (is q).0 (same q ((all q).1 (subst (λ k. FactWithin g rules k q) (sym (add-one h)) d)))) f (w.0, w.1, w.2.1))),
  )

  -- among the facts of height at most h: e is the least height of this one, and 0 where it is none
  abbrev pub Entry : ℕ → Triple → ℕ → Type 0
  Entry h f e = ((e ≡ 0) × (FactWithin g rules h f → ⊥)) ⊎ ((1 ≤ e) × (e ≤ h) × FactWithin g rules e f × ((j : ℕ) → j < e → FactWithin g rules j f → ⊥))

  pub entry_none : (f : Triple) (e : ℕ) → e ≡ 0 → Entry 0 f e
  entry_none f e z = inl (z, λ w. w.2)

  -- the entry of a fact after one round more
  pub entry_more : (h : ℕ) (N : Triple → Type 0) → Exactly N (New h) → (f : Triple) (e e' : ℕ) → (N f × (e' ≡ h + 1)) ⊎ ((N f → ⊥) × (e' ≡ e)) → Entry h f e → Entry (h + 1) f e'
  entry_more h N new f e e' (inl (n, is)) old =
      let w = (new f).0 n in
      inr (omega arith, omega arith, subst (λ k. FactWithin g rules k f) (sym is) w.0, λ j l y. w.1 (facts_up j h f (omega arith) y))
  entry_more h N new f e e' (inr (n, is)) (inl (z, none)) = inl (is ∙ z, λ w. n ((new f).1 (w, none)))
  entry_more h N new f e e' (inr (n, is)) (inr (l, m, w, least)) =
      inr (omega arith, omega arith, subst (λ k. FactWithin g rules k f) (sym is) w, λ j k y. least j (omega arith) y)

  pub entry_end : (h : ℕ) (F G : Triple → Type 0) → Exactly F (FactWithin g rules h) → ((f : Triple) → G f → F f) → Exactly G (Fact g rules) → (f : Triple) (e : ℕ) → Entry h f e → LeastHeight g rules f e
  entry_end h F G is same all f e (inl (z, none)) = inl (z, λ w. none ((is f).0 (same f ((all f).1 w))))
  entry_end h F G is same all f e (inr (l, m, w, least)) = inr (l, w, least)
