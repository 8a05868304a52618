use Rattle.std.proofs.Common.{◌≡◌, ◌/◌, ◌%◌, ◌<◌}
use Rattle.logic.specs.Layouts.{spot}
use Rattle.until.specs.Notes.{Written}
use Rattle.triples.specs.Triples.{Holds}
use Rattle.until.proofs.noting.note_symbol.Given as goal

abbrev pub invariant-loop-from : goal.invariant-loop-from
invariant-loop-from l = Written (λ k. (k / l.layout.states / l.layout.states ≡ l.symbol) × (k / l.layout.states % l.layout.states < l.from) × Holds l.fresh.rows (spot l.layout.states k)) l.round l.initial.work l.work
