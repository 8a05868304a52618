-- A table's steps along a word, one for each action that an iterator gives, up to one that is not there.
use Rattle.std.proofs.Common.{Bool, false, ◌≡◌, ℕ, List, [], ◌∷◌, None, Some, Option, MatchOption, unwrap_or, sym, ap, ◌∙◌, arith}
use denote.Ref.{Bor}
use Rattle.std.specs.Iterator.{Yields}
use Rattle.std.specs.List.{FoldsTo}
use Rattle.std.specs.Slice.Iter.{iter_rest, iter_steps}
use Rattle.std.specs.declared.slice.Iter.{Iter}
use Rattle.std.proofs.lemmas.List.{nil_from_length}
use Rattle.language.specs.Tables.{Table, Complete, run}
use Rattle.watchers.specs.Lost.{stays_lost}

module _ {F : Type 0} (t : Table) (R : F × ℕ → Bor ℕ → F × ℕ → Type 0) (f : F) (on : (p : F × ℕ) (x : Bor ℕ) (q : F × ℕ) → p.0 ≡ f → R p x q → (q.0 ≡ f) × (t.next p.1 x.now ≡ Some q.1)) where
  -- while each turn is a step of the table, the run over what is left ends where it did
  turned : (xs : List (Bor ℕ)) (s e : Iter ℕ) (p q : F × ℕ) → p.0 ≡ f → Yields iter_steps s xs e → FoldsTo R p xs q → (q.0 ≡ f) × (run t p.1 (iter_rest s) ≡ run t q.1 (iter_rest e))
  turned [] s e p q is y c = (ap (λ w. w.0) (sym c) ∙ is, ap (λ w. run t p.1 (iter_rest w)) y ∙ ap (λ w. run t w.1 (iter_rest e)) c)
  turned (x ∷ xs) s e p q is (j, first, y) (k, turn, c) =
      let m = on p x k is turn in
      let later = turned xs j e k q m.0 y c in
      (later.0, ap (run t p.1) first ∙ ap (λ o. run t (unwrap_or o t.states) (iter_rest j)) m.1 ∙ later.1)

  -- what comes of it is marked where the run's end is: a word is lost at a step that is not there
  pub decided : (n : ℕ) → Complete n t → {P : Type 0} {Q : Bor ℕ → Type 0} (xs : List (Bor ℕ)) (o : Option (Bor ℕ)) (s e u : Iter ℕ) (p q : F × ℕ) → p.0 ≡ f → Yields iter_steps s xs e → iter_steps e o u → FoldsTo R p xs q
      → (r : Option ℕ) → MatchOption o P Q → (P → r ≡ Some q.1) → ((x : Bor ℕ) → q.0 ≡ f → Q x → (r ≡ None) × (t.next q.1 x.now ≡ None))
      → (b : Bool) → (r ≡ None → b ≡ false) → ((z : ℕ) → r ≡ Some z → b ≡ t.marked z) → b ≡ t.marked (run t p.1 (iter_rest s))
  decided n whole xs None s e u p q is y last c r ends all broke b lost marked =
      let along = (turned xs s e p q is y c).1 in
      marked q.1 (all ends) ∙ ap t.marked (sym (along ∙ ap (run t q.1) (nil_from_length (iter_rest e) last.0)))
  decided n whole xs (Some x) s e u p q is y last c r ends all broke b lost marked =
      let along = turned xs s e p q is y c in
      let gone = broke x along.0 ends in
      let nowhere : run t q.1 (x.now ∷ iter_rest u) ≡ t.states = ap (λ o. run t (unwrap_or o t.states) (iter_rest u)) gone.1 ∙ stays_lost n t whole (iter_rest u) in
      lost gone.0 ∙ sym (ap t.marked (along.1 ∙ ap (run t q.1) last ∙ nowhere) ∙ whole.unmarked t.states (omega arith))
