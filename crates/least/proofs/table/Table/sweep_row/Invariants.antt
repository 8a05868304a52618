use Rattle.std.proofs.Common.{ℕ, ◌<◌}
use Rattle.least.specs.Lowering.{Always, ShutIn}
use Rattle.least.specs.Bands.{low_of, high_of}
use Rattle.least.proofs.table.Table.sweep_row.Given as goal

abbrev pub invariant-loop-to : goal.invariant-loop-to
invariant-loop-to l = Always l.rule (λ t. (u : ℕ) → u < l.to → ShutIn l.top (low_of l.band) (high_of l.band) l.rule (l.symbol, l.from, u) t) l.initial.self l.self l.fell
