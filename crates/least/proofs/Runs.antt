-- Runs of lowerings, one after another.
use Rattle.std.proofs.Common.{◌≡◌, ℕ, zero, suc, ◌+◌, ◌-◌, ◌*◌, ◌^◌, ◌<◌, ◌≤◌, Bool, true, false, ◌||◌, ◌≢◌, ◌⊎◌, List, [], ◌∷◌, ◌++◌, length, get_or, set, Some, sym, refl, ap, ◌∙◌, subst, inl, inr, ⊎_elim, true≢false, arith, get_or-set_other, get_or-set_same}
use mathlib.Core.Bool.{false≢true}
use native.Mathlib.Decide.{dec_lt, ℕ_discrete}
use Rattle.std.specs.List.{slice_get}
use Rattle.model.specs.Relations.{Among, Triple}
use Rattle.model.proofs.Joins.{same_place, place_before}
use Rattle.language.specs.declared.rule.Rule.{Rule}
use Rattle.language.proofs.Coming.{among_last}
use Rattle.least.specs.declared.scope.Scope.{Scope}
use Rattle.least.specs.declared.table.Table.{Table}
use Rattle.least.specs.Walks.{Walk}
use Rattle.logic.specs.Layouts.{place, spot}
use Rattle.logic.proofs.Layouts.{spot_place, place_below}
use Rattle.least.specs.Entries.{ground_of, entry_of, In, Known, AtMost, Sound}
use Rattle.least.specs.Lowering.{Lowers, Given, Lifted, Summed, weight, Run, Always}

pub lowered : (top cell entry : ℕ) (before after : Table) → after.scope ≡ before.scope → after.entries.now ≡ set before.entries.now cell entry → 0 < entry → entry ≤ top
    → (get_or before.entries.now cell 0 ≡ 0) ⊎ (entry < get_or before.entries.now cell 0) → Lowers top cell (Given entry) before after true
lowered top cell entry before after same is pos low more =
    let e : entry ≡ entry - 1 + 1 = omega arith in
    record {
      same = same;
      wrote = λ _. (entry - 1, e, is ∙ ap (λ k. set before.entries.now cell k) e, omega arith, ⊎_elim inl (λ l. inr (omega arith)) more);
      still = λ x. absurd (true≢false x);
    }

-- the same candidates in other words
pub lowers_like : {top cell : ℕ} {D : Table → ℕ → Type 0} (E : Table → ℕ → Type 0) {before after : Table} {fell : Bool} → ((n : ℕ) → D before n → E before n) → ((n : ℕ) → E before n → D before n) → Lowers top cell D before after fell → Lowers top cell E before after fell
lowers_like E to from j = record {
  same = j.same;
  wrote = λ x. let (n, d, e, l, f) = j.wrote x in (n, to n d, e, l, f);
  still = λ x. ((j.still x).0, λ n c. (j.still x).1 n (from n c));
}

pub lift_like : (part more : ℕ) (w : Table) (entry n : ℕ) → get_or w.entries.now part 0 ≡ entry → 0 < entry → (Given (entry + more) w n → Lifted part more w n) × (Lifted part more w n → Given (entry + more) w n)
lift_like part more w entry n is pos = (λ g. (entry - 1, omega arith, omega arith), λ (j, e, z). omega arith)

pub sum_like : (left right : ℕ) (w : Table) (first second n : ℕ) → get_or w.entries.now left 0 ≡ first → get_or w.entries.now right 0 ≡ second → 0 < first → 0 < second → (Given (first + second - 1) w n → Summed left right w n) × (Summed left right w n → Given (first + second - 1) w n)
sum_like left right w first second n e₁ e₂ p₁ p₂ = (λ g. (first - 1, second - 1, omega arith, omega arith, omega arith), λ (i, j, f₁, f₂, z). omega arith)

-- each lowering makes the table lighter
weight_set : (xs : List ℕ) (i v : ℕ) → i < length xs → 0 < v → v < 2 ^ 32 → (get_or xs i 0 ≡ 0) ⊎ (v < get_or xs i 0) → weight (set xs i v) < weight xs
unfolding weight
weight_set [] i v l p f d = absurd (omega arith)
weight_set (x ∷ xs) i zero l p f d = absurd (omega arith)
weight_set (zero ∷ xs) zero (suc v) l p f d = omega arith
weight_set (suc x ∷ xs) zero (suc v) l p f (inl e) = absurd (omega arith)
weight_set (suc x ∷ xs) zero (suc v) l p f (inr s) = omega arith
weight_set (zero ∷ xs) (suc i) (suc v) l p f d = omega (arith, weight_set xs i (suc v) (omega arith) p f d)
weight_set (suc x ∷ xs) (suc i) (suc v) l p f d = omega (arith, weight_set xs i (suc v) (omega arith) p f d)

-- two facts at one place are one
place_same : (c : Scope) (p q : Triple) → In c p → In c q → place c.states p ≡ place c.states q → q ≡ p
place_same c p q i j e = sym (spot_place c.states q j.from j.to) ∙ ap (spot c.states) (sym e) ∙ spot_place c.states p i.from i.to

-- a fact's place is in the table
pub place_in : (c : Scope) (long : ℕ) (p : Triple) → c.symbols * c.states * c.states ≤ long → In c p → place c.states p < long
place_in c long p l i = omega (arith, place_below c.states c.symbols p.0 p.1 p.2 i.symbol i.from i.to)

module _ (rules : List Rule) where
  -- one lowering, to the steps of a walk
  pub run_of : {top : ℕ} {D : Table → ℕ → Type 0} {before after : Table} {fell : Bool} (p : Triple) → In before.scope p → top < 2 ^ 16
      → (Sound rules before → (n : ℕ) → D before n → Walk (ground_of before.scope) rules p n)
      → Lowers top (place before.scope.states p) D before after fell → Run rules (λ t. (n : ℕ) → D t n → n < top → AtMost n (entry_of t p)) before after fell
  run_of {top} {D} {before} {after} {fell = true} p i low walk j =
      let (n, d, e, n<, fresh) = j.wrote refl in
      record {
        same = j.same;
        sound = λ s q k kn. keep s n d e q k kn (ℕ_discrete (place before.scope.states q) (place before.scope.states p));
        less = λ _. subst (λ w. weight w < weight before.entries.now) (sym e) (weight_set before.entries.now (place before.scope.states p) (n + 1) (place_in before.scope (length before.entries.now) p before.room i) (omega arith) (omega arith) fresh);
        still = λ x. absurd (true≢false x);
      }
    where
      keep : Sound rules before → (n : ℕ) → D before n → after.entries.now ≡ set before.entries.now (place before.scope.states p) (n + 1) → (q : Triple) (k : ℕ) → Known after q k → Dec (place before.scope.states q ≡ place before.scope.states p) → Walk (ground_of after.scope) rules q k
      keep s n d e q k kn (yes x) =
          let fits = place_in before.scope (length before.entries.now) p before.room i in
          let there = subst (λ c. In c q) j.same kn.there in
          let is = subst (λ c. get_or after.entries.now (place c.states q) 0 ≡ k + 1) j.same kn.is in
          let same : q ≡ p = place_same before.scope p q i there (sym x) in
          let here : get_or after.entries.now (place before.scope.states p) 0 ≡ n + 1 = rw (e, get_or-set_same) in
          let k≡ : n ≡ k = omega (arith, subst (λ y. get_or after.entries.now y 0 ≡ k + 1) x is) in
          subst (λ c. Walk (ground_of c) rules q k) (sym j.same) (subst (λ y. Walk (ground_of before.scope) rules y k) (sym same) (subst (Walk (ground_of before.scope) rules p) k≡ (walk s n d)))
      keep s n d e q k kn (no x) =
          let there = subst (λ c. In c q) j.same kn.there in
          let is = subst (λ c. get_or after.entries.now (place c.states q) 0 ≡ k + 1) j.same kn.is in
          subst (λ c. Walk (ground_of c) rules q k) (sym j.same)
          (s q k (record { there = there; is = sym (subst (λ w. get_or w (place before.scope.states q) 0 ≡ get_or before.entries.now (place before.scope.states q) 0) (sym e) (let ne : place before.scope.states q ≢ place before.scope.states p = x in rw get_or-set_other)) ∙ is }))
  run_of {top} {D} {before} {after} {fell = false} p i low walk j = record {
    same = j.same;
    sound = λ s. subst (Sound rules) (sym (j.still refl).0) s;
    less = λ x. absurd (false≢true x);
    still = λ _. j.still refl;
  }

  pub run_none : (w : Table) (P : Table → Type 0) → P w → Run rules P w w false
  run_none w P p = record { same = refl; sound = λ s. s; less = λ x. absurd (false≢true x); still = λ _. (refl, p) }

  pub run_like : {P : Table → Type 0} (Q : Table → Type 0) {a b : Table} {x : Bool} → (P a → Q a) → Run rules P a b x → Run rules Q a b x
  run_like Q f j = record { same = j.same; sound = j.sound; less = j.less; still = λ e. ((j.still e).0, f (j.still e).1) }

  -- one run after another
  pub run_both : {P Q : Table → Type 0} {a b d : Table} {x y : Bool} → Run rules P a b x → Run rules Q b d y → Run rules (λ w. P w × Q w) a d (x || y)
  run_both {P} {Q} {a} {b} {d} {x = true} {y = true} j l = record { same = l.same ∙ j.same; sound = λ s. l.sound (j.sound s); less = λ _. omega (arith, j.less refl, l.less refl); still = λ e. absurd (true≢false e) }
  run_both {P} {Q} {a} {b} {d} {x = true} {y = false} j l = record { same = l.same ∙ j.same; sound = λ s. l.sound (j.sound s); less = λ _. subst (λ (w : Table). weight w.entries.now < weight a.entries.now) (sym (l.still refl).0) (j.less refl); still = λ e. absurd (true≢false e) }
  run_both {P} {Q} {a} {b} {d} {x = false} {y = true} j l = record { same = l.same ∙ j.same; sound = λ s. l.sound (j.sound s); less = λ _. subst (λ (w : Table). weight d.entries.now < weight w.entries.now) (j.still refl).0 (l.less refl); still = λ e. absurd (true≢false e) }
  run_both {P} {Q} {a} {b} {d} {x = false} {y = false} j l = record { same = l.same ∙ j.same; sound = λ s. l.sound (j.sound s); less = λ e. absurd (false≢true e); still = λ _. ((l.still refl).0 ∙ (j.still refl).0, ((j.still refl).1, subst Q (j.still refl).0 (l.still refl).1)) }

  -- one turn more of a loop
  pub run_more : {P : ℕ → Table → Type 0} {a b d : Table} {x y : Bool} (i : ℕ) → Run rules (λ w. (j : ℕ) → j < i → P j w) a b x → Run rules (P i) b d y → Run rules (λ w. (j : ℕ) → j < i + 1 → P j w) a d (x || y)
  run_more {P} {a} i j l = run_like _ (λ (f, g) n n<. elim (dec_lt n i) [ yes h ↦ f n h | no h ↦ (let e : i ≡ n = omega arith in subst (λ n. P n a) e g) ]) (run_both j l)

  -- a turn at the rule that comes next
  pub run_next : {P : Rule → Table → Type 0} (gone : List Rule) (x : Rule) {a b d : Table} {y z : Bool}
      → Run rules (λ w. (r : Rule) → Among r gone → P r w) a b y → Run rules (P x) b d z → Run rules (λ w. (r : Rule) → Among r (gone ++ x ∷ []) → P r w) a d (y || z)
  run_next {P} gone x {a} j l = run_like _ (λ (f, g) r r∈. ⊎_elim (f r) (λ e. subst (λ s. P s a) (sym e) g) (among_last x gone r r∈)) (run_both j l)

  -- a turn at the element of a list that stands at the loop's place
  pub run_at : {X : Type 0} {P : X → Table → Type 0} (xs : List X) (i : ℕ) (x : X) {a b d : Table} {y z : Bool} → slice_get xs i ≡ Some x
      → Run rules (λ w. (j : ℕ) → j < i → (e : X) → slice_get xs j ≡ Some e → P e w) a b y → Run rules (P x) b d z → Run rules (λ w. (j : ℕ) → j < i + 1 → (e : X) → slice_get xs j ≡ Some e → P e w) a d (y || z)
  run_at {P = P} xs i x {b = b} here j l = run_more i j (run_like _ (λ at e is. subst (λ o. P o b) (same_place xs i x e here is) at) l)

  -- all elements are done
  pub run_all : {X : Type 0} {P : X → Table → Type 0} (xs : List X) (n : ℕ) {a b : Table} {y : Bool} → length xs ≤ n
      → Run rules (λ w. (j : ℕ) → j < n → (e : X) → slice_get xs j ≡ Some e → P e w) a b y → Run rules (λ w. (e : X) → Among e xs → P e w) a b y
  run_all xs n long j = run_like _ (λ at e e∈. at e∈.0 (omega (arith, place_before xs e∈.0 e e∈.1)) e e∈.1) j

-- the table is about the same after a run by a rule
pub same_scope : {r : Rule} {P : Table → Type 0} {a b : Table} {x : Bool} → Always r P a b x → b.scope ≡ a.scope
same_scope {r} j = (j (r ∷ []) (0, refl)).same
