use Rattle.std.proofs.Common.{arith}
use Rattle.until.proofs.Notes.{written_none, written_like, symbol_written}
use Rattle.until.proofs.noting.note.Goals as goal

pub loop-symbol-init : goal.loop-symbol-init
loop-symbol-init c = written_none _ _ _ (λ k m. let l = m.0 in absurd (omega arith))

pub loop-symbol-preserved : goal.loop-symbol-preserved
loop-symbol-preserved c = symbol_written c.args.layout.states c.loop-symbol.symbol _ _ _ _ _ c.loop-symbol.invariant c.note_symbol.ensures

pub returns : goal.returns
returns c = written_like _ _ _ _ _ (λ k m. m.1) (λ k m. (omega (arith, (c.requires.below _ m).0, c.loop-symbol-test.false), m)) c.loop-symbol.invariant
