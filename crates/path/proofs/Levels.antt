-- The least number of a list above one number and not above another, as one pass over the list finds it.
use Rattle.std.proofs.Common.{◌≡◌, ℕ, ◌+◌, ◌<◌, ◌≤◌, ◌⊎◌, Bool, true, false, not, ◌&&◌, nat_lt, cond, min, List, [], ◌∷◌, Option, Some, None, MatchOption, refl, sym, ap, ◌∙◌, subst, inl, inr, ⊎_elim, arith}
use Rattle.std.proofs.lemmas.Bool.{cases_Bool, cond-true, cond-false}
use Rattle.std.proofs.lemmas.Bool.Decides.{nat_tests}
use Rattle.std.specs.List.{fold, reduce, filter}

min_falls : (xs : List ℕ) (a : ℕ) → fold min a xs ≤ a
min_falls [] a = omega arith
min_falls (x ∷ xs) a = omega (arith, min_falls xs (min a x))

module _ (level top : ℕ) where
  abbrev pub between : ℕ → Bool
  between k = nat_lt level k && not (nat_lt top k)

  -- one turn: the number, if it is above the level and less than what was found before
  abbrev pub lesser : ℕ → ℕ → ℕ
  lesser next k = cond (nat_lt level k && nat_lt k next) k next

  step_in : (a x : ℕ) → a ≤ top + 1 → between x ≡ true → lesser a x ≡ min a x
  step_in a x l is = grind (arith, nat_tests)

  step_out : (a x : ℕ) → a ≤ top + 1 → between x ≡ false → lesser a x ≡ a
  step_out a x l is = grind (arith, nat_tests)

  -- a pass is the least of the numbers between
  pub as_least : (xs : List ℕ) (a : ℕ) → a ≤ top + 1 → fold lesser a xs ≡ fold min a (filter between xs)
  as_least [] a l = refl
  as_least (x ∷ xs) a l = elim (cases_Bool (between x)) [
    | inl is ↦
        let e = step_in a x l is in
        ap (λ n. fold lesser n xs) e ∙ as_least xs (min a x) (omega arith) ∙ sym (ap (λ ys. fold min a ys) (cond-true _ _ _ is))
    | inr is ↦
        let e = step_out a x l is in
        ap (λ n. fold lesser n xs) e ∙ as_least xs a l ∙ sym (ap (λ ys. fold min a ys) (cond-false _ _ _ is))
  ]

  -- what was found before stays, or what is found is above the level
  pub found_above : (xs : List ℕ) (a : ℕ) → (fold lesser a xs ≡ a) ⊎ (level < fold lesser a xs)
  found_above [] a = inl refl
  found_above (x ∷ xs) a = ⊎_elim (λ same. elim (cases_Bool (nat_lt level x && nat_lt x a)) [
    | inl is ↦ let e : lesser a x ≡ x = cond-true _ _ _ is in let up : level < x = grind (arith, nat_tests) in inr (omega arith)
    | inr is ↦ let e : lesser a x ≡ a = cond-false _ _ _ is in inl (same ∙ e)
  ]) inr (found_above xs (lesser a x))

  passed : (xs : List ℕ) → MatchOption (reduce min (filter between xs)) (fold min (top + 1) (filter between xs) ≡ top + 1) (λ m. (fold min (top + 1) (filter between xs) ≡ m) × (m ≤ top))
  passed [] = refl
  passed (x ∷ xs) = elim (cases_Bool (between x)) [
    | inl is ↦
        let low : x ≤ top = grind (arith, nat_tests) in
        let e : min (top + 1) x ≡ x = omega arith in
        let first : MatchOption (reduce min (x ∷ filter between xs)) (fold min (top + 1) (x ∷ filter between xs) ≡ top + 1) (λ m. (fold min (top + 1) (x ∷ filter between xs) ≡ m) × (m ≤ top))
        = (ap (λ n. fold min n (filter between xs)) e, omega (arith, min_falls (filter between xs) x)) in
        subst (λ ys. MatchOption (reduce min ys) (fold min (top + 1) ys ≡ top + 1) (λ m. (fold min (top + 1) ys ≡ m) × (m ≤ top))) (sym (cond-true _ _ _ is)) first
    | inr is ↦ subst (λ ys. MatchOption (reduce min ys) (fold min (top + 1) ys ≡ top + 1) (λ m. (fold min (top + 1) ys ≡ m) × (m ≤ top))) (sym (cond-false _ _ _ is)) (passed xs)
  ]

  some_is : (o : Option ℕ) (r f : ℕ) → r ≡ f → MatchOption o (f ≡ top + 1) (λ m. (f ≡ m) × (m ≤ top)) → r < top + 1 → Some r ≡ o
  some_is None r f e is l = absurd (omega arith)
  some_is (Some m) r f e is l = ap Some (e ∙ is.0)

  none_is : (o : Option ℕ) (r f : ℕ) → r ≡ f → MatchOption o (f ≡ top + 1) (λ m. (f ≡ m) × (m ≤ top)) → top + 1 ≤ r → None ≡ o
  none_is None r f e is l = refl
  none_is (Some m) r f e is l = absurd (let n = is.0 in let low = is.1 in omega arith)

  -- what a pass from one more than the top has found
  module _ (xs : List ℕ) (r : ℕ) (found : r ≡ fold lesser (top + 1) xs) where
    pub above : r < top + 1 → (level < r) × (r ≤ top)
    above l = ⊎_elim (λ same. absurd (omega arith)) (λ up. (omega arith, omega arith)) (found_above xs (top + 1))

    pub least_there : r < top + 1 → Some r ≡ reduce min (filter between xs)
    least_there = some_is _ r _ (found ∙ as_least xs (top + 1) (omega arith)) (passed xs)

    pub none_there : top + 1 ≤ r → None ≡ reduce min (filter between xs)
    none_there = none_is _ r _ (found ∙ as_least xs (top + 1) (omega arith)) (passed xs)
