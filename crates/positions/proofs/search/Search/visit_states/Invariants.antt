use Rattle.std.proofs.Common.{◌≡◌, ℕ}
use Rattle.model.specs.Sets.{Has}
use Rattle.positions.specs.Looking.{Looks}
use Rattle.positions.proofs.search.Search.visit_states.Given as goal

abbrev pub invariant-loop-state : goal.invariant-loop-state
invariant-loop-state g l = record {
  looked : Looks (λ p. (k : ℕ) × Has l.initial.rest k × (Has l.rest k → ⊥) × (p ≡ (k, l.watch))) l.fn.self l.self;
  inside : (s : ℕ) → Has l.rest s → Has l.initial.rest s;
}

abbrev pub decreases-loop-state : goal.decreases-loop-state
decreases-loop-state g l = l.rest.bits
