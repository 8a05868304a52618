use Rattle.std.proofs.Common.{◌≡◌}
use Rattle.least.specs.Entries.{Sound}
use Rattle.least.specs.Lowering.{weight}
use Rattle.path.proofs.search.settle.Given as goal

abbrev pub invariant-loop-band : goal.invariant-loop-band
invariant-loop-band g l = record {
  same : l.table.scope ≡ l.initial.table.scope;
  sound : Sound (g.L.UntilLanguage.rules l.language) l.initial.table → Sound (g.L.UntilLanguage.rules l.language) l.table;
}

abbrev pub decreases-loop-band : goal.decreases-loop-band
decreases-loop-band g l = weight l.table.entries.now
