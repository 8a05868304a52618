-- The table that a table watcher tells: its steps are there, and a run over it ends where the stored steps lead.
use Rattle.std.specs.Prelude.{◌≡◌, ℕ, ◌<◌, [], ◌∷◌, Some, nat_lt, refl}
use Rattle.std.proofs.Common.{ap, ◌∙◌, arith}
use Rattle.std.specs.Option.{unwrap_or}
use Rattle.std.proofs.lemmas.Bool.{lt-ltb, le-ltb, and_from, and_left, and_right, cond-true, cond-false}
use Rattle.language.specs.Words.{Word, Known}
use Rattle.language.specs.Tables.{run, step, Complete}
use Rattle.watchers.specs.declared.table_watcher.TableWatcher.{TableWatcher}
use Rattle.watchers.specs.TableWatchers.{next_of, mark_of, reached, stored_table}

pub there : (t : TableWatcher) (q a : ℕ) → q < t.states → a < t.actions → (stored_table t).next q a ≡ Some (next_of t q a)
there t q a p l = cond-true _ _ _ (and_from (nat_lt q t.states) (nat_lt a t.actions) (lt-ltb q t.states p) (lt-ltb a t.actions l))

pub whole : (t : TableWatcher) → Complete t.actions (stored_table t)
whole t = record {
  starts = omega (arith, t.some_state);
  leads = λ q a p l. (next_of t q a, there t q a p l, t.inside q a);
  no_state = λ q a p. cond-false _ _ _ (and_left (nat_lt q t.states) (nat_lt a t.actions) (le-ltb q t.states p));
  no_action = λ q a l. cond-false _ _ _ (and_right (nat_lt q t.states) (nat_lt a t.actions) (le-ltb a t.actions l));
  unmarked = λ q p. and_left (nat_lt q t.states) (mark_of t q) (le-ltb q t.states p);
}

-- over known words the told table and the stored one run alike
pub alike : (t : TableWatcher) (q : ℕ) (w : Word) → q < t.states → Known t.actions w → (run (stored_table t) q w ≡ reached t q w) × (reached t q w < t.states)
alike t q [] p k = (refl, p)
alike t q (a ∷ w) p k =
    let e : step (stored_table t) q a ≡ next_of t q a = ap (λ o. unwrap_or o t.states) (there t q a p k.0) in
    let later = alike t (next_of t q a) w (t.inside q a) k.1 in
    (ap (λ r. run (stored_table t) r w) e ∙ later.0, later.1)
