-- Words that close d brackets more than they open.
use Rattle.std.specs.Prelude.{◌≡◌, ℕ, zero, suc, ◌+◌, ◌-◌, ◌≤◌, [], ◌∷◌, ◌++◌, length, take, ◌≢◌, refl}
use Rattle.std.proofs.Common.{sym, ap, subst, ◌∙◌, inl, inr, arith}
use Rattle.std.proofs.lemmas.List.{take-append-le}
use Rattle.std.proofs.Math.Seq.{take-append-add}
use Rattle.std.proofs.lemmas.Bool.{cond-true, cond-false, eq-eqb, ne_eqb, cases_lt, cases_eq}
use Rattle.language.specs.Words.{Word}
use Rattle.kinds.specs.BracketWords.{times}

-- from depth d on: the word ends at depth 0, and no beginning of it goes below
pub record Closes (up down d : ℕ) (w : Word) : Type 0 where
  pub ends : d + times up w ≡ times down w
  pub stays : (n : ℕ) → times down (take n w) ≤ d + times up (take n w)

pub times_hit : (x : ℕ) (w : Word) → times x (x ∷ w) ≡ suc (times x w)
times_hit x w = cond-true _ _ _ (eq-eqb x x refl)

pub times_miss : (x a : ℕ) (w : Word) → (a ≢ x) → times x (a ∷ w) ≡ times x w
times_miss x a w ne = cond-false _ _ _ (ne_eqb a x ne)

pub times_append : (x : ℕ) (u v : Word) → times x (u ++ v) ≡ times x u + times x v
times_append x [] v = omega arith
times_append x (a ∷ u) v = elim (cases_eq a x) [
  | inl e ↦ let hit : (w : Word) → times x (a ∷ w) ≡ suc (times x w) = λ w. cond-true _ _ _ (eq-eqb a x e) in omega (arith, hit (u ++ v), hit u, times_append x u v)
  | inr ne ↦ omega (arith, times_miss x a (u ++ v) ne, times_miss x a u ne, times_append x u v)
]

-- a beginning of two words that goes past the first
take_past : (n : ℕ) (u v : Word) → length u ≤ n → take n (u ++ v) ≡ u ++ take (n - length u) v
take_past n u v l = let e : n ≡ length u + (n - length u) = omega arith in ap (λ k. take k (u ++ v)) e ∙ take-append-add u v (n - length u)

module _ (up down : ℕ) (apart : up ≡ down → ⊥) where
  none_stays : (d n : ℕ) → times down (take n []) ≤ d + times up (take n [])
  none_stays d zero = omega arith
  none_stays d (suc n) = omega arith

  pub closes_none : Closes up down 0 []
  closes_none = record { ends = refl; stays = none_stays 0 }

  pub closes_up : (d : ℕ) (w : Word) → Closes up down (suc d) w → Closes up down d (up ∷ w)
  closes_up d w c = record {
    ends = omega (arith, times_hit up w, times_miss down up w apart, c.ends);
    stays = stays_up;
  }
    where
      stays_up : (n : ℕ) → times down (take n (up ∷ w)) ≤ d + times up (take n (up ∷ w))
      stays_up zero = omega arith
      stays_up (suc n) = omega (arith, times_hit up (take n w), times_miss down up (take n w) apart, c.stays n)

  pub closes_down : (d : ℕ) (w : Word) → Closes up down d w → Closes up down (suc d) (down ∷ w)
  closes_down d w c = record {
    ends = omega (arith, times_hit down w, times_miss up down w (λ e. apart (sym e)), c.ends);
    stays = stays_down;
  }
    where
      stays_down : (n : ℕ) → times down (take n (down ∷ w)) ≤ suc d + times up (take n (down ∷ w))
      stays_down zero = omega arith
      stays_down (suc n) = omega (arith, times_hit down (take n w), times_miss up down (take n w) (λ e. apart (sym e)), c.stays n)

  pub closes_other : (d a : ℕ) (w : Word) → (a ≢ up) → (a ≢ down) → Closes up down d w → Closes up down d (a ∷ w)
  closes_other d a w nu nd c = record {
    ends = omega (arith, times_miss up a w nu, times_miss down a w nd, c.ends);
    stays = stays_other;
  }
    where
      stays_other : (n : ℕ) → times down (take n (a ∷ w)) ≤ d + times up (take n (a ∷ w))
      stays_other zero = omega arith
      stays_other (suc n) = omega (arith, times_miss up a (take n w) nu, times_miss down a (take n w) nd, c.stays n)

  pub closes_append : (d e : ℕ) (u v : Word) → Closes up down d u → Closes up down e v → Closes up down (d + e) (u ++ v)
  closes_append d e u v c f = record {
    ends = omega (arith, times_append up u v, times_append down u v, c.ends, f.ends);
    stays = λ n. elim (cases_lt n (length u)) [
      | inl l ↦
          let s : take n (u ++ v) ≡ take n u = take-append-le n u v (omega arith) in
          subst (λ x. times down x ≤ d + e + times up x) (sym s) (omega (arith, c.stays n))
      | inr l ↦
          let t : Word = take (n - length u) v in
          subst (λ x. times down x ≤ d + e + times up x) (sym (take_past n u v l)) (omega (arith, times_append up u t, times_append down u t, c.ends, f.stays (n - length u)))
    ];
  }

  -- the same, read from the front
  pub up_closes : (d : ℕ) (w : Word) → Closes up down d (up ∷ w) → Closes up down (suc d) w
  up_closes d w c = record {
    ends = omega (arith, times_hit up w, times_miss down up w apart, c.ends);
    stays = λ n. omega (arith, times_hit up (take n w), times_miss down up (take n w) apart, c.stays (suc n));
  }

  pub down_closes : (d : ℕ) (w : Word) → Closes up down (suc d) (down ∷ w) → Closes up down d w
  down_closes d w c = record {
    ends = omega (arith, times_hit down w, times_miss up down w (λ e. apart (sym e)), c.ends);
    stays = λ n. omega (arith, times_hit down (take n w), times_miss up down (take n w) (λ e. apart (sym e)), c.stays (suc n));
  }

  pub down_never : (w : Word) → Closes up down 0 (down ∷ w) → ⊥
  down_never w c = omega (arith, times_hit down [], times_miss up down [] (λ e. apart (sym e)), c.stays 1)

  pub other_closes : (d a : ℕ) (w : Word) → (a ≢ up) → (a ≢ down) → Closes up down d (a ∷ w) → Closes up down d w
  other_closes d a w nu nd c = record {
    ends = omega (arith, times_miss up a w nu, times_miss down a w nd, c.ends);
    stays = λ n. omega (arith, times_miss up a (take n w) nu, times_miss down a (take n w) nd, c.stays (suc n));
  }
