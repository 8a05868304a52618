use Rattle.std.proofs.Common.{ℕ}
use Rattle.model.specs.Sets.{Has}
use Rattle.positions.specs.Pairs.{InRow}
use Rattle.positions.specs.Looking.{Looks}
use Rattle.positions.proofs.search.Search.visit_back.Given as goal

abbrev pub invariant-loop-watch : goal.invariant-loop-watch
invariant-loop-watch g l = record {
  looked : Looks (λ p. (k : ℕ) × Has l.initial.rest k × (Has l.rest k → ⊥) × InRow k (Has l.states) p) l.fn.self l.self;
  inside : (q : ℕ) → Has l.rest q → Has l.initial.rest q;
}

abbrev pub decreases-loop-watch : goal.decreases-loop-watch
decreases-loop-watch g l = l.rest.bits
