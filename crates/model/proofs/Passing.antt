-- The numbers below a bound that pass a test, one after another.
use Rattle.std.proofs.Common.{◌≡◌, ℕ, ◌+◌, ◌<◌, Bool, true, false, Decides, sym, refl, subst, inl, inr, ⊎_elim, arith}
use Rattle.std.proofs.lemmas.Bool.{cases_eq, false≢true}
use Rattle.model.specs.declared.number_set.NumberSet.{NumberSet}
use Rattle.model.specs.Relations.{Joined, Exactly}
use Rattle.model.specs.Sets.{Has}

-- the set has those of the numbers below n that pass
pub record Passed (Post : ℕ → Bool → Type 0) (x : NumberSet) (n : ℕ) : Type 0 where
  pub below : (u : ℕ) → Has x u → u < n
  pub tested : (u : ℕ) → u < n → (passes : Bool) × Post u passes × Decides passes (Has x u)

pub passed_more : (Post : ℕ → Bool → Type 0) (old new : NumberSet) (t : ℕ) (passes : Bool) → Post t passes → (passes ≡ true → Joined (Has old) (Has new) (λ u. u ≡ t)) → (passes ≡ false → new ≡ old) → Passed Post old t → Passed Post new (t + 1)
passed_more Post old new t true post more same p = let j = more refl in record {
  below = λ u h. ⊎_elim (λ o. omega (arith, p.below u o)) (λ e. omega (arith, e)) (j.only u h);
  tested = λ u l. elim (cases_eq u t) [
    | inl e ↦ (true, subst (λ k. Post k true) (sym e) post, ((λ _. j.puts u e), (λ _. refl)))
    | inr ne ↦ let (b, q, d) = p.tested u (omega arith) in (b, q, ((λ is. j.keeps u (d.0 is)), (λ h. ⊎_elim d.1 (λ e. absurd (ne e)) (j.only u h))))
  ];
}
passed_more Post old new t false post more same p = let e : new ≡ old = same refl in record {
  below = λ u h. omega (arith, p.below u (subst (λ y. Has y u) e h));
  tested = λ u l. elim (cases_eq u t) [
    | inl is ↦ (false, subst (λ k. Post k false) (sym is) post, ((λ never. absurd (false≢true never)), (λ h. absurd (omega (arith, p.below u (subst (λ y. Has y u) e h), is)))))
    | inr ne ↦ let (b, q, d) = p.tested u (omega arith) in (b, q, subst (λ (y : NumberSet). Decides b (Has y u)) (sym e) d)
  ];
}

-- where the test decides a fact
pub passed_exactly : {Post : ℕ → Bool → Type 0} (x : NumberSet) {n : ℕ} (P : ℕ → Type 0) → ((u : ℕ) → Has x u → u < n) → ((u : ℕ) → u < n → (passes : Bool) × Post u passes × Decides passes (Has x u))
    → ((u : ℕ) (b : Bool) → u < n → Post u b → Decides b (P u)) → Exactly (Has x) (λ u. (u < n) × P u)
passed_exactly x P below tested decides u = (
  λ h. let l = below u h in let (b, post, d) = tested u l in (l, (decides u b l post).0 (d.1 h)),
  λ (l, p). let (b, post, d) = tested u l in d.0 ((decides u b l post).1 p),
)
