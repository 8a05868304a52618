-- The number with the least key among the first numbers that pass a test.
use Rattle.std.proofs.Common.{zero, suc, ◌/◌, ◌%◌, ◌^◌, ⊎_elim, IsSomeAnd, IfSome, ◌≡◌, ℕ, ◌+◌, ◌<◌, ◌≤◌, ◌⊎◌, Bool, true, false, cond, List, [], ◌∷◌, length, Some, None, Option, Decides, refl, sym, ap, ◌∙◌, subst, inl, inr, arith, MatchOption, Bor}
use Rattle.std.proofs.Math.Decide.{dec_le}
use native.Mathlib.Decide.{dec_lt, ℕ_discrete}
use denote.Param.Members.{Mut}
use Rattle.std.specs.List.{slice_get, filter, range_with_len}
use Rattle.std.specs.Fn.{CalledAt, TakesAt}
use Rattle.std.specs.Ordering.{is_lt, nat_cmp, min_by_ordering}
use Rattle.std.specs.Iterator.{DrainsIf, Yields, KeyTurn, CallableInMinByKey}
use Rattle.std.specs.Iterator.Runs.{Run, WholeRun, AnyItem, CallKeepsClosure, NoKeyBeyond, YieldsRun}
use Rattle.std.proofs.lemmas.Iterator.{YieldsList, items_from_drains}
use Rattle.std.proofs.lemmas.Iterator.Consumers.{YieldsList-turn}
use Rattle.std.proofs.lemmas.Fn.{serves_by}
use Rattle.std.proofs.lemmas.List.{map-id}
use Rattle.std.proofs.lemmas.Map.Keys.{ge_from_not_lt}
use Rattle.std.proofs.lemmas.Option.{slice_get_within, slice_get_read}
use Rattle.model.specs.declared.number_set.NumberSet.{NumberSet}
use Rattle.least.specs.declared.table.Table.{Table}
use Rattle.least.specs.Entries.{entry_of}
use Rattle.path.specs.Witnesses.{Near, Best}

-- the answer of a decided fact
abbrev pub says : {P : Type 0} → Dec P → Bool
says (yes p) = true
says (no n) = false

pub says_is : {P : Type 0} (d : Dec P) (b : Bool) → Decides b P → b ≡ says d
says_is (yes p) b h = h.1 p
says_is (no n) true h = absurd (n (h.0 refl))
says_is (no n) false h = refl

pub says_true : {P : Type 0} (d : Dec P) → says d ≡ true → P
says_true (yes p) e = p
says_true (no n) e = cc

pub true_says : {P : Type 0} (d : Dec P) → P → says d ≡ true
true_says (yes p) q = refl
true_says (no n) q = absurd (n q)

-- what a run of an iterator to its end gave
module _ {S : Type 0} {steps : S → Option ℕ → S → Type 0} {s : S} {xs : List ℕ} (gives : YieldsList steps (λ x. x) s xs) (p : Run steps) (from : p.from ≡ s) (whole : p.whole ≡ true) where
  pub run_items : p.items ≡ xs
  unfolding YieldsRun
  run_items = sym (map-id p.items) ∙ items_from_drains p.items (subst (λ z. DrainsIf steps (Unit {0}) z p.items) from (p.gave.0.0, p.gave.0.1, λ _. p.gave.0.2 whole)) gives

  pub run_at : (k : ℕ) → p.at k ≡ slice_get xs k
  unfolding YieldsRun
  run_at k = p.gave.1 k ∙ ap (λ zs. slice_get zs k) run_items

module _ (test : ℕ → Bool) where
  later : (b : Bool) (a : ℕ) (xs : List ℕ) (k u : ℕ) → slice_get xs k ≡ Some u → (j : ℕ) × (slice_get (cond b (a ∷ xs) xs) j ≡ Some u)
  later true a xs k u is = (suc k, is)
  later false a xs k u is = (k, is)

  here : (b : Bool) (a : ℕ) (xs : List ℕ) (u : ℕ) → a ≡ u → b ≡ true → (j : ℕ) × (slice_get (cond b (a ∷ xs) xs) j ≡ Some u)
  here true a xs u e t = (0, ap (λ z. Some z) e)
  here false a xs u e t = cc

  -- a number that passes stands at some place
  pub place_of : (n a u : ℕ) → a ≤ u → u < a + n → test u ≡ true → (k : ℕ) × (slice_get (filter test (range_with_len a n)) k ≡ Some u)
  place_of zero a u l m p = absurd (omega arith)
  place_of (suc n) a u l m p = elim (ℕ_discrete a u) [
    | yes e ↦ here (test a) a _ u e (ap test e ∙ p)
    | no ne ↦ (let (k, is) = place_of n (a + 1) u (omega arith) (omega arith) p in later (test a) a _ k u is)
  ]

  first_at : (k a x : ℕ) (xs : List ℕ) → slice_get (a ∷ xs) k ≡ Some x → (a ≡ x) ⊎ ((j : ℕ) × (slice_get xs j ≡ Some x))
  first_at zero a x xs e = inl cc
  first_at (suc k) a x xs e = inr (k, e)

  after : (n a k x : ℕ) (b : Bool) → test a ≡ b → ((j : ℕ) → slice_get (filter test (range_with_len (a + 1) n)) j ≡ Some x → (x < a + 1 + n) × (test x ≡ true))
      → slice_get (cond b (a ∷ filter test (range_with_len (a + 1) n)) (filter test (range_with_len (a + 1) n))) k ≡ Some x → (x < a + suc n) × (test x ≡ true)
  after n a k x true t rest e = ⊎_elim (λ is. (omega (arith, is), subst (λ z. test z ≡ true) is t)) (λ (j, at). let (m, p) = rest j at in (omega (arith, m), p)) (first_at k a x _ e)
  after n a k x false t rest e = let (m, p) = rest k e in (omega (arith, m), p)

  -- what stands there passes
  pub passes_at : (n a k x : ℕ) → slice_get (filter test (range_with_len a n)) k ≡ Some x → (x < a + n) × (test x ≡ true)
  passes_at zero a k x e = cc
  passes_at (suc n) a k x e = after n a k x (test a) refl (λ j. passes_at n (a + 1) j x) e

-- the least of what passes may be asked for, if the key may be asked of each number below n
module _ (test : ℕ → Bool) (n : ℕ) {S : Type 0} {steps : S → Option ℕ → S → Type 0} {from : S} (gives : YieldsList steps (λ x. x) from (filter test (range_with_len 0 n))) where
  item_below : (xs : List ℕ) (t : S) (x : ℕ) (u : S) → Yields steps from xs t → steps t (Some x) u → x < n
  item_below xs t x u y step = let (l, is) = YieldsList-turn gives xs t y (Some x) u x refl step in omega (arith, (passes_at test n 0 (length xs) x (slice_get_read _ _ (length xs) x refl l is)).0)

  pub may_choose : {F : Type 0} (g : Mut F (Bor ℕ × Unit {0}) ℕ) (f : F) → ((x k : ℕ) (q : F) → CalledAt g f x k q → q ≡ f) → ((x : ℕ) → x < n → TakesAt g f x) → CallableInMinByKey steps g nat_cmp from f
  may_choose {F} g f keeps takes = λ x t step. (
    takes x (item_below [] from x t refl step),
    λ k f' called. serves_by (KeyTurn min_by_ordering min_by_ordering g nat_cmp) (λ xs (q : (F × ℕ) × ℕ). q.0.0 ≡ f) (λ xs q z v j turn. keeps z turn.0 v.0.0 (subst (λ h. CalledAt g h z turn.0 v.0.0) j turn.2)) steps
        (λ (q : (F × ℕ) × ℕ) z. TakesAt g q.0.0 z) t ((f', k), x) (keeps x k f' called)
        (λ xs t' q z u ys step' j. subst (λ h. TakesAt g h z) (sym j) (takes z (item_below (x ∷ xs) t' z u (t, step, ys) step'))),
  )

-- the state of the goal with the least entry, from the run that chose it
module _ (w : Table) (goal : NumberSet) (s top : ℕ) where
  pub dec_near : (u : ℕ) → Dec (Near w goal s top u)
  dec_near u = elim (ℕ_discrete ((goal.bits / 2 ^ u) % 2) 1) [
    | no h ↦ no (λ near. h near.0)
    | yes h ↦ elim (dec_lt 0 (entry_of w (0, s, u))) [
      | no p ↦ no (λ near. p near.1)
      | yes p ↦ elim (dec_le (entry_of w (0, s, u)) top) [
        | no l ↦ no (λ near. l near.2)
        | yes l ↦ yes (h, p, l)
      ]
    ]
  ]

  -- whether the state is near
  abbrev pub near_test : ℕ → Bool
  near_test u = says (dec_near u)

  module _ (n : ℕ) {S F : Type 0} {steps : S → Option ℕ → S → Type 0} {from : S} (g : Mut F (Bor ℕ × Unit {0}) ℕ) (f : F) (gives : YieldsList steps (λ x. x) from (filter near_test (range_with_len 0 n))) (inside : n ≤ w.scope.states)
      (keeps : CallKeepsClosure g f) (calls : (x k : ℕ) (q : F) → CalledAt g f x k q → k ≡ entry_of w (0, s, x)) where
    stands : (o : Option ℕ) (t : ℕ) → IsSomeAnd o (λ x. x ≡ t) → o ≡ Some t
    stands None t h = absurd h
    stands (Some x) t h = ap (λ z. Some z) h

    not_lower : (t u key : ℕ) (o : Option ℕ) → CalledAt g f t key f → o ≡ Some u → IfSome o (λ x. (j : ℕ) × CalledAt g f x j f × (is_lt (nat_cmp j key) ≡ false)) → entry_of w (0, s, t) ≤ entry_of w (0, s, u)
    not_lower t u key o called e h =
        let (j, called_u, not_less) = subst (λ z. IfSome z (λ x. (j : ℕ) × CalledAt g f x j f × (is_lt (nat_cmp j key) ≡ false))) e h in
        omega (arith, ge_from_not_lt j key not_less, calls u j f called_u, calls t key f called)

    pub best_of : (r : Option ℕ) → WholeRun steps from (λ p. MatchOption r (p.len ≡ 0) (λ m. AnyItem p (λ x. x ≡ m) × NoKeyBeyond p g f is_lt nat_cmp m)) → Best w goal s top n r
    best_of None (p, at, whole, none) = λ u l h pos. elim (dec_le (entry_of w (0, s, u)) top) [
      | no far ↦ omega arith
      | yes low ↦
          (let (k, is) = place_of near_test n 0 u (omega arith) (omega arith) (true_says (dec_near u) (h, pos, low)) in
          absurd (omega (arith, none, p.long, ap length (run_items gives p at whole), slice_get_within _ k u is)))
    ]
    best_of (Some t) (p, at, whole, ((k, l, is), beyond)) =
        let (below, passes) = passes_at near_test n 0 k t (sym (run_at gives p at whole k) ∙ stands _ t is) in
        let near = says_true (dec_near t) passes in
        let (key, called, all) = beyond keeps in
        record {
          there = omega (arith, below);
          ends = near.0;
          some = near.1;
          low = near.2;
          least = λ u l' hu pu. elim (dec_le (entry_of w (0, s, u)) top) [
            | no far ↦ omega (arith, near.2)
            | yes low ↦
                (let (i, is_u) = place_of near_test n 0 u (omega arith) (omega arith) (true_says (dec_near u) (hu, pu, low)) in
                not_lower t u key _ called (run_at gives p at whole i ∙ is_u) (all i))
          ];
        }
