use Rattle.std.proofs.Common.{ℕ, ◌<◌}
use Rattle.least.specs.Lowering.{Always, ShutIn}
use Rattle.least.specs.Bands.{low_of, high_of}
use Rattle.least.proofs.table.Table.sweep_part.Given as goal

abbrev pub invariant-loop-from : goal.invariant-loop-from
invariant-loop-from l = Always l.rule (λ t. (s : ℕ) → s < l.from → (u : ℕ) → u < t.scope.states → ShutIn l.top (low_of l.band) (high_of l.band) l.rule (l.symbol, s, u) t) l.initial.self l.self l.fell
