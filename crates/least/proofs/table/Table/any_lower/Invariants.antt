use Rattle.std.proofs.Common.{ℕ, ◌+◌, ◌<◌, get_or, Decides}
use Rattle.least.specs.Lowering.{Lower}
use Rattle.least.proofs.table.Table.any_lower.Given as goal

abbrev pub invariant-loop-k : goal.invariant-loop-k
invariant-loop-k l = Decides l.lower ((j : ℕ) × (j < l.k) × Lower l.top l.known (get_or l.self.entries.now (l.others + j) 0) (get_or l.self.entries.now (l.heads + j) 0))
