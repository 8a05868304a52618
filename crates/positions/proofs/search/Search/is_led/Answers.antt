use Rattle.std.proofs.Common.{ℕ, ◌<◌, sym, refl, ◌∙◌, subst, arith}
use mathlib.Core.Bool.{false≢true}
use Rattle.language.specs.declared.alphabet.Alphabet.{Ghosts as Alphabets}
use Rattle.language.specs.declared.watcher.Watcher.{Ghosts as Watchers}
use Rattle.positions.specs.declared.search.Search.{Search}
use Rattle.positions.specs.Pairs.{pair}
use Rattle.positions.specs.Searches.{LedBy, Noted}
use Rattle.positions.specs.Looking.{table_of, IsInside}
use Rattle.positions.proofs.Leadings.{led_all, led_each, noted_more}
use Rattle.positions.proofs.Turns.{charted}
use Rattle.positions.proofs.search.Search.is_led.Goals as goal

-- the edges from the pair by the action lead to what the search has found
abbrev Leads : {W : Type 0} {w : Watchers W} {a : Alphabets W} → ℕ × ℕ → ℕ → Search W w a → Type 0
Leads p n s = LedBy s.setting.watched.model.now (table_of s.setting) s.found.rows p n

pub loop-action-init : goal.loop-action-init
loop-action-init g c =
    let s = c.args.self.now in
    record { same = refl; led = λ a l. s.noted (pair c.args.position) (omega (arith, c.requires.0, s.setting.watched.model.now.few_states)) a (subst (λ n. a < n) c.get-action.ensures l) }

pub note-requires-clause-watch : goal.note-requires-clause-watch
note-requires-clause-watch g c = omega (arith, c.requires.1, (charted c.args.self.now.setting).small)

pub invariant_of-self-clause-noted : goal.invariant_of-self-clause-noted
invariant_of-self-clause-noted g c =
    let s = c.loop-action.self in
    let t = table_of s.setting in
    let p = pair c.args.position in
    let inside = subst (λ x. IsInside x.setting c.args.position) (sym c.loop-action.invariant.same) c.requires in
    let small = (charted s.setting).small in
    subst (Noted s.setting.watched.model.now t s.found.rows) (sym c.note.ensures) (noted_more s.setting.watched.model.now t s.found.rows s.progress.actions p c.loop-action.action
    (omega (arith, inside.1, small, s.progress.all_watches))
    (omega (arith, inside.0, s.setting.watched.model.now.few_states, s.progress.all_states c.args.position.watch (omega (arith, inside.1, small))))
    (λ a l. subst (Leads p a) (sym c.loop-action.invariant.same) (c.loop-action.invariant.led a l)) s.noted)

pub returns-then-not-is_led_by-clause-led : goal.returns-then-not-is_led_by-clause-led
returns-then-not-is_led_by-clause-led g c =
    let s = c.args.self.now in
    let p = pair c.args.position in (
      λ e. absurd (false≢true e),
      λ all. absurd (false≢true (sym c.if-not-is_led_by.true ∙ c.is_led_by.ensures.1 (subst (Leads p c.loop-action.action) (sym c.loop-action.invariant.same) (led_each s.setting.watched.model.now (table_of s.setting) s.found.rows p all c.loop-action.action)))),
    )

pub returns-clause-led : goal.returns-clause-led
returns-clause-led g c =
    let s = c.args.self.now in
    (λ _. led_all s.setting.watched.model.now (table_of s.setting) s.found.rows (pair c.args.position) (λ a l. c.loop-action.invariant.led a (omega (arith, c.actions-action-end.ensures, c.loop-action-test.false))), λ _. refl)
