-- The numbers of a stretch that pass a test.
use Rattle.std.specs.Prelude.{◌≡◌, ℕ, zero, suc, ◌+◌, ◌-◌, ◌<◌, ◌≤◌, Bool, true, false, cond, count_by, List, slice_index_or, [], ◌∷◌, length, Some, refl}
use Rattle.std.proofs.Common.{sym, ap, ◌∙◌, inl, inr, arith}
use Rattle.std.specs.List.{slice_get}
use Rattle.std.proofs.lemmas.Bool.{cases_Bool, cond-true, cond-false, cases_eq}
use Rattle.model.specs.Relations.{Among}
use Rattle.std.specs.List.{range_with_len}
use Rattle.std.proofs.lemmas.List.Sums.{length-filter, count_by-le-length}
use Rattle.std.proofs.lemmas.List.FromFn.{length-range_with_len}
use Rattle.kinds.specs.Passing.{passing, marked_below}

module _ (test : ℕ → Bool) where
  -- the next number passes, or it does not
  pub passing_here : (q n : ℕ) → q < n → test q ≡ true → passing test q (n - q) ≡ q ∷ passing test (q + 1) (n - (q + 1))
  passing_here q n l m = let e : n - q ≡ suc (n - (q + 1)) = omega arith in ap (passing test q) e ∙ cond-true _ _ _ m

  pub failing_here : (q n : ℕ) → q < n → test q ≡ false → passing test q (n - q) ≡ passing test (q + 1) (n - (q + 1))
  failing_here q n l m = let e : n - q ≡ suc (n - (q + 1)) = omega arith in ap (passing test q) e ∙ cond-false _ _ _ m

  pub passing_end : (q n : ℕ) → n ≤ q → passing test q (n - q) ≡ []
  passing_end q n l = let e : n - q ≡ 0 = omega arith in ap (passing test q) e

  pub passing_few : (n q : ℕ) → length (passing test q n) ≤ n
  passing_few n q =
      let stretch = range_with_len q n in
      omega (arith, length-filter test stretch, count_by-le-length test stretch, length-range_with_len q n)

  pub passing_among : (n q p : ℕ) → q ≤ p → p < q + n → test p ≡ true → Among p (passing test q n)
  passing_among zero q p low high m = absurd (omega arith)
  passing_among (suc n) q p low high m = elim (cases_eq q p) [
    | inl e ↦ (0, ap (λ xs. slice_get xs 0) (cond-true _ _ _ (ap test e ∙ m)) ∙ ap Some e)
    | inr ne ↦
        let later = passing_among n (q + 1) p (omega arith) (omega arith) m in
        elim (cases_Bool (test q)) [
          | inl here ↦ (suc later.0, ap (λ xs. slice_get xs (suc later.0)) (cond-true _ _ _ here) ∙ later.1)
          | inr here ↦ (later.0, ap (λ xs. slice_get xs later.0) (cond-false _ _ _ here) ∙ later.1)
        ]
  ]

  -- one of a list with q at its head, where the rest are known
  among_first : (q n p k : ℕ) → test q ≡ true → ((j : ℕ) → slice_get (passing test (q + 1) n) j ≡ Some p → (p < q + 1 + n) × (test p ≡ true)) → slice_get (q ∷ passing test (q + 1) n) k ≡ Some p → (p < q + suc n) × (test p ≡ true)
  among_first q n p zero here later is = let s : q ≡ p = cc in (omega arith, ap test (sym s) ∙ here)
  among_first q n p (suc j) here later is = let m = later j is in (omega (arith, m.0), m.1)

  pub among_passing : (n q p : ℕ) → Among p (passing test q n) → (p < q + n) × (test p ≡ true)
  among_passing zero q p (k, e) = let z : ◌≡◌ {A = ℕ} 0 1 = cc in absurd (omega arith)
  among_passing (suc n) q p (k, e) = elim (cases_Bool (test q)) [
    | inl here ↦ among_first q n p k here (λ j is. among_passing n (q + 1) p (j, is)) (sym (ap (λ xs. slice_get xs k) (cond-true _ _ _ here)) ∙ e)
    | inr here ↦ let later = among_passing n (q + 1) p (k, sym (ap (λ xs. slice_get xs k) (cond-false _ _ _ here)) ∙ e) in (omega (arith, later.0), later.1)
  ]

-- two tests that agree pass the same numbers
pub passing_alike : (f g : ℕ → Bool) (n q : ℕ) → ((k : ℕ) → k < q + n → f k ≡ g k) → passing f q n ≡ passing g q n
passing_alike f g zero q same = refl
passing_alike f g (suc n) q same =
    let later = passing_alike f g n (q + 1) (λ k l. same k (omega arith)) in
    ap (λ b. cond b (q ∷ passing f (q + 1) n) (passing f (q + 1) n)) (same q (omega arith)) ∙ ap (λ xs. cond (g q) (q ∷ xs) xs) later

-- how many numbers are marked, by counting them
pub marked_length : (marks : List Bool) (n : ℕ) → length (marked_below marks n) ≡ count_by (λ q. slice_index_or marks q false) (range_with_len 0 n)
unfolding marked_below
marked_length marks n = length-filter (λ q. slice_index_or marks q false) (range_with_len 0 n)
