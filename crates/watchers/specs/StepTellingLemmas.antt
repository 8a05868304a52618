-- The table that a step watcher tells: its steps are there, and a run over it counts the actions.
use Rattle.std.specs.Prelude.{◌≡◌, ℕ, suc, ◌+◌, ◌%◌, ◌<◌, [], ◌∷◌, length, Some, nat_lt}
use Rattle.std.proofs.Common.{sym, ap, ◌∙◌, arith, mod-lt, mod-eq_of_lt}
use Rattle.std.proofs.Math.Nat.{mod-add-mod}
use Rattle.std.specs.Option.{unwrap_or}
use Rattle.std.proofs.lemmas.Bool.{lt-ltb, le-ltb, and_from, and_left, and_right, cond-true, cond-false, ne_eqb}
use Rattle.language.specs.Words.{Word, Known}
use Rattle.language.specs.Tables.{run, step, Complete}
use Rattle.watchers.specs.declared.step_watcher.StepWatcher.{StepWatcher}
use Rattle.watchers.specs.Steps.{step_table}

pub there : (s : StepWatcher) (q a : ℕ) → q < s.modulus → a < s.actions → (step_table s).next q a ≡ Some ((q + 1) % s.modulus)
there s q a p l = cond-true _ _ _ (and_from (nat_lt q s.modulus) (nat_lt a s.actions) (lt-ltb q s.modulus p) (lt-ltb a s.actions l))

pub whole : (s : StepWatcher) → Complete s.actions (step_table s)
whole s = record {
  starts = omega (arith, s.some_modulus);
  leads = λ q a p l. ((q + 1) % s.modulus, there s q a p l, mod-lt (q + 1) (omega (arith, s.some_modulus)));
  no_state = λ q a p. cond-false _ _ _ (and_left (nat_lt q s.modulus) (nat_lt a s.actions) (le-ltb q s.modulus p));
  no_action = λ q a l. cond-false _ _ _ (and_right (nat_lt q s.modulus) (nat_lt a s.actions) (le-ltb a s.actions l));
  unmarked = λ q p. ne_eqb q s.remainder (λ e. omega (arith, s.below_modulus));
}

-- a known word is counted
pub counted : (s : StepWatcher) (q : ℕ) (w : Word) → q < s.modulus → Known s.actions w → run (step_table s) q w ≡ (q + length w) % s.modulus
counted s q [] p k = let e : q + 0 ≡ q = omega arith in sym (ap (λ n. n % s.modulus) e ∙ mod-eq_of_lt p)
counted s q (a ∷ w) p k =
    let e : step (step_table s) q a ≡ (q + 1) % s.modulus = ap (λ o. unwrap_or o s.modulus) (there s q a p k.0) in
    let n : q + 1 + length w ≡ q + suc (length w) = omega arith in
    ap (λ r. run (step_table s) r w) e ∙ counted s ((q + 1) % s.modulus) w (mod-lt (q + 1) (omega arith)) k.1 ∙ mod-add-mod (q + 1) s.modulus (length w) ∙ ap (λ m. m % s.modulus) n

pub counted_all : (s : StepWatcher) (w : Word) → Known s.actions w → run (step_table s) 0 w ≡ length w % s.modulus
counted_all s w k = let e : 0 + length w ≡ length w = omega arith in counted s 0 w (omega (arith, s.some_modulus)) k ∙ ap (λ n. n % s.modulus) e
