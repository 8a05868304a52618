-- What one more record does to a set of records.
use Rattle.std.proofs.Common.{◌≡◌, ℕ, zero, suc, ◌⊎◌, List, [], ◌∷◌, ◌++◌, length, Some, Ok, Err, Result, MatchResult, subst, sym, refl, ap, inl, inr, ⊎_elim, arith}
use Rattle.std.specs.List.{slice_get}
use Rattle.std.proofs.lemmas.Option.{slice_get_within}
use Rattle.model.specs.declared.refusal.Refusal.{Refusal}
use Rattle.model.specs.declared.record_set.RecordSet.{RecordSet}
use Rattle.model.specs.Relations.{Among, IsDistinct}
use Rattle.model.specs.RecordSets.{records_of, AfterAdd}

-- a list with one more at its end: at each place what was there, or the one at the end
at_more : {T : Type 0} (xs : List T) (x : T) (k : ℕ) (y : T) → slice_get (xs ++ x ∷ []) k ≡ Some y → (slice_get xs k ≡ Some y) ⊎ ((k ≡ length xs) × (y ≡ x))
at_more [] x zero y is = inr (refl, cc)
at_more [] x (suc k) y is = inl is
at_more (z ∷ xs) x zero y is = inl is
at_more (z ∷ xs) x (suc k) y is = ⊎_elim inl (λ e. inr (ap suc e.0, e.1)) (at_more xs x k y is)

among_last : {T : Type 0} (xs : List T) (x y : T) → Among y (xs ++ x ∷ []) → Among y xs ⊎ (y ≡ x)
among_last xs x y m = ⊎_elim (λ is. inl (m.0, is)) (λ e. inr e.1) (at_more xs x m.0 y m.1)

pub distinct_more : {T : Type 0} (xs more : List T) (x : T) → more ≡ xs ++ x ∷ [] → IsDistinct xs → (Among x xs → ⊥) → IsDistinct more
distinct_more xs more x is distinct absent i j y l a b = ⊎_elim
    (λ here. ⊎_elim (distinct i j y l here) (λ last. absent (i, subst (λ z. slice_get xs i ≡ Some z) last.1 here)) (at_more xs x j y (subst (λ ys. slice_get ys j ≡ Some y) is b)))
    (λ last. ⊎_elim (λ there. absurd (omega (arith, slice_get_within xs j y there, last.0))) (λ end. absurd (omega (arith, last.0, end.0))) (at_more xs x j y (subst (λ ys. slice_get ys j ≡ Some y) is b)))
    (at_more xs x i y (subst (λ ys. slice_get ys i ≡ Some y) is a))

-- what holds of every record and of the one that comes holds of every record afterwards
added_all : {T : Type 0} (P : T → Type 0) (before after : List T) (x : T) → ((y : T) → Among y before → P y) → P x → AfterAdd before after x → (y : T) → Among y after → P y
added_all P before after x each here added y m = ⊎_elim
    (λ (there, same). each y (subst (Among y) same m))
    (λ (absent, grown). ⊎_elim (each y) (λ e. subst P (sym e) here) (among_last before x y (subst (Among y) grown m)))
    added

pub add_keeps_all : {T : Type 0} {n : ℕ} (P : T → Type 0) (old new : RecordSet T n) (x : T) (r : Result (Unit {0}) Refusal) → MatchResult r (λ _. AfterAdd (records_of old) (records_of new) x) (λ _. new ≡ old)
    → ((y : T) → Among y (records_of old) → P y) → P x → (y : T) → Among y (records_of new) → P y
add_keeps_all P old new x (Ok _) after each here = added_all P (records_of old) (records_of new) x each here after
add_keeps_all P old new x (Err _) after each here = λ y m. each y (subst (λ s. Among y (records_of s)) after m)
