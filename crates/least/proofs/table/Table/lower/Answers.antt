use Rattle.std.proofs.Common.{get_or, refl, inl, inr, arith}
use Rattle.least.proofs.Runs.{lowered}
use native.Mathlib.Decide.{ℕ_discrete}
use Rattle.least.proofs.table.Table.lower.Goals as goal

pub returns-then-given-old : goal.returns-then-given-old
returns-then-given-old c = lowered _ _ _ _ _ refl refl c.requires.given (omega arith) (elim (ℕ_discrete (get_or c.args.self.now.entries.now c.args.cell 0) 0) [ yes e ↦ inl e | no n ↦ inr (omega arith) ])
