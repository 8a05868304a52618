use Rattle.std.proofs.Common.{◌≡◌, ◌+◌, sym, ◌∙◌, subst, arith}
use mathlib.Core.Bool.{false≢true}
use Rattle.model.specs.Sets.{Has}
use Rattle.positions.specs.Looking.{table_of}
use Rattle.positions.specs.Beginnings.{Begun}
use Rattle.positions.proofs.Beginnings.{begun_not, begun_here}
use Rattle.positions.proofs.search.Search.doom_marked.Goals as goal
use Rattle.positions.proofs.search.Search.doom_marked.Goals.{then-is_marked, else-is_marked}

pub doom_states-requires-clause-new : goal.doom_states-requires-clause-new
doom_states-requires-clause-new g c = λ s h x. let b = (c.loop-watch.invariant.bad (s, c.loop-watch.watch)).0 x in omega (arith, b.0)

pub loop-watch-preserved : goal.loop-watch-preserved
loop-watch-preserved g c =
    let x = c.args.self.now in
    let y = c.loop-watch.self in
    let n = c.loop-watch.watch in
    let inv = c.loop-watch.invariant in
    let B = Begun (Has c.args.states) (n + 1) x in
    let here = subst (λ s. c.is_marked.result ≡ (table_of s).marked n) inv.same c.is_marked.ensures in
    elim c.if-is_marked.branch [
      | then-is_marked w ↦ subst B (sym w.self-is) (begun_here (Has c.args.states) x n y w.doom_states.new.self (sym here ∙ w.if-is_marked.true) inv w.doom_states.ensures)
      | else-is_marked w ↦ subst B (sym w.self-is) (begun_not (Has c.args.states) x n y (λ e. false≢true (sym w.if-is_marked.false ∙ here ∙ e)) inv)
    ]
