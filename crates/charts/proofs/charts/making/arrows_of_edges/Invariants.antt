use Rattle.std.proofs.Common.{◌≡◌, Some}
use Rattle.std.specs.List.{slice_get}
use Rattle.model.specs.declared.edge.Edge.{Edge}
use Rattle.model.specs.Relations.{Joined, Upto}
use Rattle.triples.specs.Triples.{Holds}
use Rattle.charts.proofs.charts.making.arrows_of_edges.Given as goal

abbrev pub invariant-loop-edge : goal.invariant-loop-edge
invariant-loop-edge l = record {
  into : Joined (Holds l.initial.into.rows) (Holds l.into.rows) (Upto (λ k x. (e : Edge) × (slice_get l.edge-items k ≡ Some e) × (x ≡ (e.action, e.to, e.from))) l.edge-index);
  out : Joined (Holds l.initial.out.rows) (Holds l.out.rows) (Upto (λ k x. (e : Edge) × (slice_get l.edge-items k ≡ Some e) × (x ≡ (e.action, e.from, e.to))) l.edge-index);
}
