use Rattle.std.proofs.Common.{arith}
use Rattle.logic.proofs.Layouts.{place_below}
use Rattle.until.proofs.Notes.{written_none, written_like, row_written, row_to_below}
use Rattle.until.proofs.noting.note_symbol.Goals as goal

pub loop-from-init : goal.loop-from-init
loop-from-init c = written_none _ _ _ (λ k m. let l = m.1 in absurd (omega arith))

pub note_row-requires : goal.note_row-requires
note_row-requires c t h =
    let layout = c.args.layout in
    let to = row_to_below layout.states c.args.symbol c.loop-from.from _ _ layout.few_states c.loop-from-test.true c.row.ensures c.requires.below t h in
    let place = place_below layout.states layout.symbols c.args.symbol c.loop-from.from t c.requires.symbol c.loop-from-test.true to in
    omega (arith, c.requires.room, c.row-base.ensures)

pub loop-from-preserved : goal.loop-from-preserved
loop-from-preserved c =
    let layout = c.args.layout in
    row_written layout.states c.args.symbol c.loop-from.from _ _ layout.few_states c.loop-from-test.true c.row.ensures c.requires.below _ _ _ _ c.loop-from.invariant (rw c.row-base.ensures at c.note_row.ensures)

pub returns : goal.returns
returns c = written_like _ _ _ _ _ (λ k m. (m.0, m.2)) (λ k m. (m.0, omega (arith, (c.requires.below _ m.1).1, c.loop-from-test.false), m.1)) c.loop-from.invariant
