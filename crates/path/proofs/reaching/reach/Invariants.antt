use Rattle.std.proofs.Common.{◌-◌}
use lib.Count.{ones}
use Rattle.path.specs.Reaching.{Reached}
use Rattle.path.proofs.reaching.reach.Given as goal

abbrev pub invariant-loop-span : goal.invariant-loop-span
invariant-loop-span g l = Reached (g.L.UntilLanguage.rules l.language) l.table l.fn.fact.from l.fn.fact.to l.fn.worth l.fn.fact.symbol l.mask

abbrev pub decreases-loop-span : goal.decreases-loop-span
decreases-loop-span g l = 32 - ones l.mask.bits
