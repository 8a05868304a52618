use Rattle.std.proofs.Common.{ℕ}
use Rattle.model.specs.Sets.{Has}
use Rattle.positions.specs.Looking.{Finds}
use Rattle.positions.proofs.Findings.{Taken}
use Rattle.positions.proofs.search.Search.doom_states.Given as goal

abbrev pub invariant-loop-state : goal.invariant-loop-state
invariant-loop-state g l = record {
  found : Finds (Taken l.watch l.initial.rest l.rest) l.fn.self l.self;
  inside : (s : ℕ) → Has l.rest s → Has l.initial.rest s;
}

abbrev pub decreases-loop-state : goal.decreases-loop-state
decreases-loop-state g l = l.rest.bits
