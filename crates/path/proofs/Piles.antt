-- A pile with room takes what is laid on it.
use Rattle.std.proofs.Common.{◌≡◌, ℕ, List, [], ◌∷◌, ◌++◌, reverse, Ok, Err, Result, ap, ◌∙◌, inl, inr, arith, MatchResult}
use mathlib.Core.List.{reverse-append}
use Rattle.model.specs.declared.refusal.Refusal.{Refusal}
use Rattle.model.specs.Refusals.{refusal, Refuse, Accept}

-- a push that has no cause to be refused is done
pub accepted : {X : Type 0} (r : Result X Refusal) (full P Q : Type 0) → (full → ⊥) → Refuse full 23 Accept (refusal r) → MatchResult r (λ _. P) (λ _. Q) → P
accepted (Ok x) full P Q free cause done = done
accepted (Err e) full P Q free (inl (f, is)) done = absurd (free f)
accepted (Err e) full P Q free (inr (f, is)) done = let z : ◌≡◌ {A = ℕ} 0 1 = cc in absurd (omega arith)

-- the pending facts, the next one first, after a push and before a pop
pub reverse_last : {X : Type 0} (xs ys : List X) (x : X) → xs ≡ ys ++ x ∷ [] → reverse xs ≡ x ∷ reverse ys
reverse_last xs ys x e = ap reverse e ∙ reverse-append ys (x ∷ [])

pub reverse_more : {X : Type 0} (xs ys zs : List X) → xs ≡ ys ++ zs → reverse xs ≡ reverse zs ++ reverse ys
reverse_more xs ys zs e = ap reverse e ∙ reverse-append ys zs
