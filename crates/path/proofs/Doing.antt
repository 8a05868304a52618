-- Writing out a path, split by split.
use Rattle.std.proofs.Common.{◌≡◌, ℕ, ◌+◌, ◌-◌, ◌*◌, ◌<◌, ◌≤◌, List, [], ◌∷◌, ◌++◌, reverse, length, take, drop, set, sym, refl, ap, ◌∙◌, subst, append_assoc, append-nil, arith}
use Rattle.std.proofs.lemmas.List.{take_more_set, drop-set-lt}
use Rattle.model.specs.declared.edge.Edge.{Edge}
use Rattle.model.specs.declared.edge.Step.{Step}
use Rattle.language.specs.declared.rule.Rule.{Rule}
use Rattle.language.specs.Words.{Word}
use Rattle.language.specs.Derivations.{Derives}
use Rattle.logic.specs.Paths.{word}
use Rattle.logic.specs.Facts.{Guarded}
use Rattle.least.specs.declared.fact.Fact.{Fact}
use Rattle.least.specs.declared.table.Table.{Table}
use Rattle.least.specs.Walks.{Leads}
use Rattle.least.specs.Entries.{ground_of, triple, Known, Sound}
use Rattle.logic.proofs.GuardedPaths.{word_append, guarded_append, guarded_edge}
use Rattle.path.specs.declared.split.Split.{Split}
use Rattle.path.specs.declared.split.Split.TheVariants.{Last, Onward, Both}
use Rattle.path.specs.Unfolding.{Follows, Splits, Doing, laid, wrote, parts, stepped}

pub parts_length : (f : Fact) (sp : Split) → length (parts f sp) ≡ laid sp
parts_length f (Last a t) = refl
parts_length f (Onward a t B) = refl
parts_length f (Both B u C) = refl

module _ (rules : List Rule) (w : Table) where
  -- never more facts than steps
  pub follows_length : (s t n : ℕ) (fs : List Fact) → Follows w s fs t n → length fs ≤ n
  follows_length s t n [] f = omega arith
  follows_length s t n (f ∷ fs) (e, i, j, pos, kn, rest, z) = omega (arith, follows_length f.to t j fs rest)

  module _ (fact : Fact) (count : ℕ) (old : List Step) where
    pub doing_start : 0 < count → Known w (triple fact) count → Doing rules w fact count old (fact ∷ []) old 0
    doing_start pos kn = record {
      at = fact.from;
      left = count;
      path = (omega (arith, kn.there.from, w.scope.its_states), refl);
      next = (refl, count, 0, pos, kn, (refl, refl), omega arith);
      sum = omega arith;
      gives = λ x (u, v, e, d, z). subst (Derives rules fact.symbol) (sym (e ∙ ap (λ y. u ++ y) z ∙ append-nil u)) d;
      others = refl;
    }

    -- one step more on the path
    on_path : (steps : List Step) (written v : ℕ) (e : Edge) (a t : ℕ) → written < length steps → Guarded (ground_of w.scope) fact.from (take written steps) v → Leads (ground_of w.scope) a v e → e.to ≡ t
        → Guarded (ground_of w.scope) fact.from (take (written + 1) (set steps written (record { action = a; state = t }))) t
    on_path steps written v e a t l g ld et =
        subst (λ y. Guarded (ground_of w.scope) fact.from y t) (sym (take_more_set steps written (record { action = a; state = t }) l))
        (guarded_append (ground_of w.scope) fact.from v t (take written steps) (record { action = a; state = t } ∷ []) g
        (subst (λ y. Guarded (ground_of w.scope) v (record { action = y; state = t } ∷ []) t) ld.2 (subst (λ y. Guarded (ground_of w.scope) v (record { action = e.action; state = y } ∷ []) y) et (guarded_edge (ground_of w.scope) e v e.to [] ld.0 ld.1 ld.3 ((w.scope.ground.now.model.inside e ld.0).2, refl)))))

    on_word : (steps : List Step) (written : ℕ) (a t : ℕ) (x : Word) → written < length steps → word w.scope.ground.now.model (take written steps) ++ (a ∷ x) ≡ word w.scope.ground.now.model (take (written + 1) (set steps written (record { action = a; state = t }))) ++ x
    on_word steps written a t x l =
        sym (append_assoc (word w.scope.ground.now.model (take written steps)) (a ∷ []) x) ∙ ap (λ y. y ++ x) (sym (word_append w.scope.ground.now.model (take written steps) (record { action = a; state = t } ∷ [])) ∙ ap (word w.scope.ground.now.model) (sym (take_more_set steps written (record { action = a; state = t }) l)))

    -- the split of the next fact, with its facts in place of it
    pub doing_more : (sp : Split) (f : Fact) (fs : List Fact) (steps : List Step) (written : ℕ) → written + wrote sp ≤ length steps → ((n : ℕ) → Known w (triple f) n → Splits rules w f n sp)
        → Doing rules w fact count old (f ∷ fs) steps written → Doing rules w fact count old (reverse (parts f sp) ++ fs) (stepped sp steps written) (written + wrote sp)
    doing_more (Last a t) f fs steps written l split d =
        let (from, i, j, pos, kn, rest, z) = d.next in
        let (one, to, e, leads, et, der) = split i kn in
        record {
          at = t;
          left = j;
          path = on_path steps written d.at e a t (omega arith) d.path (subst (λ y. Leads (ground_of w.scope) a y e) from leads) et;
          next = subst (λ y. Follows w y fs fact.to j) (sym to) rest;
          sum = omega (arith, d.sum);
          gives = λ x sp. subst (Derives rules fact.symbol) (on_word steps written a t x (omega arith)) (d.gives (a ∷ x) (a ∷ [], x, refl, der, sp));
          others = drop-set-lt count steps written (record { action = a; state = t }) (omega (arith, d.sum)) ∙ d.others;
        }
    doing_more (Onward a t B) f fs steps written l split d =
        let (from, i, j, pos, kn, rest, z) = d.next in
        let (e, leads, et, h, hpos, hz, hk, der) = split i kn in
        record {
          at = t;
          left = h + j;
          path = on_path steps written d.at e a t (omega arith) d.path (subst (λ y. Leads (ground_of w.scope) a y e) from leads) et;
          next = (refl, h, j, hpos, hk, rest, refl);
          sum = omega (arith, d.sum);
          gives = λ x (u, v, q, du, sp). subst (Derives rules fact.symbol) (on_word steps written a t x (omega arith)) (d.gives (a ∷ x) (a ∷ u, v, ap (λ y. a ∷ y) q, der u du, sp));
          others = drop-set-lt count steps written (record { action = a; state = t }) (omega (arith, d.sum)) ∙ d.others;
        }
    doing_more (Both B u C) f fs steps written l split d =
        let (from, i, j, pos, kn, rest, z) = d.next in
        let (i₁, i₂, p₁, p₂, iz, k₁, k₂, der) = split i kn in
        let e : written ≡ written + 0 = omega arith in
        subst (Doing rules w fact count old (record { symbol = B; from = f.from; to = u } ∷ (record { symbol = C; from = u; to = f.to } ∷ fs)) steps) e record {
          at = d.at;
          left = d.left;
          path = d.path;
          next = (from, i₁, i₂ + j, p₁, k₁, (refl, i₂, j, p₂, k₂, rest, refl), omega arith);
          sum = d.sum;
          gives = λ x (v₁, x₁, q₁, d₁, (v₂, x₂, q₂, d₂, sp)). d.gives x (v₁ ++ v₂, x₂, q₁ ∙ ap (λ y. v₁ ++ y) q₂ ∙ sym (append_assoc v₁ v₂ x₂), der v₁ v₂ d₁ d₂, sp);
          others = d.others;
        }

    pub doing_end : (steps : List Step) (written : ℕ) → Doing rules w fact count old [] steps written
        → Guarded (ground_of w.scope) fact.from (take count steps) fact.to × Derives rules fact.symbol (word w.scope.ground.now.model (take count steps)) × (drop count steps ≡ drop count old)
    doing_end steps written d =
        let e : written ≡ count = omega (arith, d.sum, d.next.1) in (
          subst (λ y. Guarded (ground_of w.scope) fact.from (take y steps) fact.to) e (subst (Guarded (ground_of w.scope) fact.from (take written steps)) d.next.0 d.path),
          subst (λ y. Derives rules fact.symbol (word w.scope.ground.now.model (take y steps))) e (subst (Derives rules fact.symbol) (append-nil (word w.scope.ground.now.model (take written steps))) (d.gives [] refl)),
          d.others,
        )

    -- what a turn needs of the next fact: it is known with at least one step, and there is room for what its split lays and
    -- writes
    pub record Turn (f : Fact) (room written : ℕ) (pending : ℕ) : Type 0 where
      pub steps : ℕ
      pub some : 0 < steps
      pub few : steps ≤ count
      pub known : Known w (triple f) steps
      pub space : (sp : Split) → ((n : ℕ) → Known w (triple f) n → Splits rules w f n sp) → (pending + laid sp ≤ room) × (written + wrote sp ≤ count) × (2 * (count - (written + wrote sp)) - (pending + laid sp) < 2 * (count - written) - (pending + 1))

    pub turn : (f : Fact) (fs : List Fact) (steps : List Step) (written room : ℕ) → count ≤ room → Doing rules w fact count old (f ∷ fs) steps written → Turn f room written (length fs)
    turn f fs steps written room l d =
        let (from, i, j, pos, kn, rest, z) = d.next in
        let many = follows_length f.to fact.to j fs rest in
        let sum = d.sum in
        record { steps = i; some = pos; few = omega arith; known = kn; space = λ sp split. go i j pos many z sum sp (split i kn) }
      where
        go : (i j : ℕ) → 0 < i → length fs ≤ j → d.left ≡ i + j → written + d.left ≡ count → (sp : Split) → Splits rules w f i sp
            → (length fs + laid sp ≤ room) × (written + wrote sp ≤ count) × (2 * (count - (written + wrote sp)) - (length fs + laid sp) < 2 * (count - written) - (length fs + 1))
        go i j pos many z sum (Last a t) s = (omega arith, omega arith, omega arith)
        go i j pos many z sum (Onward a t B) (e, ld, et, h, hpos, hz, hk, der) = (omega arith, omega arith, omega arith)
        go i j pos many z sum (Both B u C) (i₁, i₂, p₁, p₂, iz, k₁, k₂, der) = (omega arith, omega arith, omega arith)

  -- a fact of no steps
  pub zero_path : Sound rules w → (f : Fact) (n : ℕ) (steps : List Step) → n ≡ 0 → Known w (triple f) n → Guarded (ground_of w.scope) f.from (take n steps) f.to × Derives rules f.symbol (word w.scope.ground.now.model (take n steps))
  zero_path sound f n steps z kn =
      let (path, g, d, len) = sound (triple f) n kn in
      let e : path ≡ take n steps = empty path (omega arith) ∙ sym (ap (λ y. take y steps) z) in
      (subst (λ y. Guarded (ground_of w.scope) f.from y f.to) e g, subst (λ y. Derives rules f.symbol (word w.scope.ground.now.model y)) e d)
    where
      empty : (path : List Step) → length path ≡ 0 → path ≡ []
      empty [] l = refl
      empty (x ∷ path) l = absurd (omega arith)
