-- A word with an action that the table does not know is lost.
use Rattle.std.specs.Prelude.{◌≡◌, ℕ, true, [], ◌∷◌, ◌≢◌, refl}
use Rattle.std.proofs.Common.{sym, ap, subst, ◌∙◌, inl, inr, arith}
use borrow.Author.Tests.{clash}
use Rattle.std.specs.Option.{unwrap_or}
use Rattle.std.proofs.lemmas.Bool.{cases_lt}
use Rattle.language.specs.Words.{Word, Known}
use Rattle.language.specs.Tables.{Table, step, run, Complete}

module _ (n : ℕ) (t : Table) (whole : Complete n t) where
  -- no way back from beyond the table
  pub stays_lost : (w : Word) → run t t.states w ≡ t.states
  stays_lost [] = refl
  stays_lost (a ∷ w) =
      let e : step t t.states a ≡ t.states = ap (λ o. unwrap_or o t.states) (whole.no_state t.states a (omega arith)) in
      ap (λ q. run t q w) e ∙ stays_lost w

  pub lost_unmarked : (w : Word) → t.marked (run t t.states w) ≢ true
  lost_unmarked w marked = clash (sym (whole.unmarked t.states (omega arith)) ∙ ap t.marked (sym (stays_lost w)) ∙ marked)

  -- a word that ends in a marked state has known actions alone
  pub marked_known : (q : ℕ) (w : Word) → t.marked (run t q w) ≡ true → Known n w
  marked_known q [] marked = tt
  marked_known q (a ∷ w) marked = elim (cases_lt a n) [
    | inl l ↦ (l, marked_known (step t q a) w marked)
    | inr l ↦
        let e : step t q a ≡ t.states = ap (λ o. unwrap_or o t.states) (whole.no_action q a l) in
        absurd (lost_unmarked w (subst (λ p. t.marked (run t p w) ≡ true) e marked))
  ]
