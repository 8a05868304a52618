use Rattle.std.proofs.Common.{◌≡◌, ◌+◌, ◌-◌, ◌<◌}
use Rattle.least.specs.Entries.{Sound}
use Rattle.least.specs.Lowering.{weight}
use Rattle.path.proofs.search.grow.Given as goal

abbrev pub invariant-loop-level : goal.invariant-loop-level
invariant-loop-level g l = record {
  same : l.table.scope ≡ l.initial.table.scope;
  sound : Sound (g.L.UntilLanguage.rules l.language) l.initial.table → Sound (g.L.UntilLanguage.rules l.language) l.table;
  some : 0 < l.level;
}

abbrev pub decreases-loop-level : goal.decreases-loop-level
decreases-loop-level g l = weight l.table.entries.now + (l.top + 1 - l.level)
