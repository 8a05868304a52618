use Rattle.std.proofs.Common.{◌/◌, ◌<◌}
use Rattle.logic.specs.Layouts.{spot}
use Rattle.until.specs.Notes.{Written}
use Rattle.triples.specs.Triples.{Holds}
use Rattle.until.proofs.noting.note.Given as goal

abbrev pub invariant-loop-symbol : goal.invariant-loop-symbol
invariant-loop-symbol l = Written (λ k. (k / l.layout.states / l.layout.states < l.symbol) × Holds l.fresh.rows (spot l.layout.states k)) l.round l.initial.work l.work
