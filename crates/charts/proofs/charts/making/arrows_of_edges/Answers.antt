use Rattle.std.proofs.Common.{ℕ, arith}
use Rattle.model.specs.declared.edge.Edge.{Edge}
use Rattle.charts.proofs.Drawings.{edge_at, one_more, arrow_each, arrows_all, into_exact, out_exact}
use Rattle.charts.proofs.charts.making.arrows_of_edges.Goals as goal

abbrev to_from : Edge → ℕ × ℕ × ℕ
to_from e = (e.action, e.to, e.from)

abbrev from_to : Edge → ℕ × ℕ × ℕ
from_to e = (e.action, e.from, e.to)

pub add-requires : goal.add-requires
add-requires c =
    let m = c.args.model.now in
    let (a, b, d) = edge_at m c.edges-edge-items.result.now c.edges-edge-items.ensures c.loop-edge.edge-index c.loop-edge-test.true in
    record { first = omega (arith, b, m.few_actions); second = omega (arith, d, m.few_states) }

pub add-requires-in-loop-edge : goal.add-requires-in-loop-edge
add-requires-in-loop-edge c =
    let m = c.args.model.now in
    let (a, b, d) = edge_at m c.edges-edge-items.result.now c.edges-edge-items.ensures c.loop-edge.edge-index c.loop-edge-test.true in
    record { first = omega (arith, b, m.few_actions); second = omega (arith, a, m.few_states) }

pub loop-edge-preserved : goal.loop-edge-preserved
loop-edge-preserved c =
    let m = c.args.model.now in
    let edges = c.edges-edge-items in
    let (a, b, d) = edge_at m edges.result.now edges.ensures c.loop-edge.edge-index c.loop-edge-test.true in
    record {
      into = arrow_each m edges.result.now edges.ensures to_from c.loop-edge.edge-index c.loop-edge-test.true c.loop-edge.invariant.into (one_more _ _ _ c.single.result (omega (arith, a, m.few_states)) c.single.ensures c.add.ensures);
      out = arrow_each m edges.result.now edges.ensures from_to c.loop-edge.edge-index c.loop-edge-test.true c.loop-edge.invariant.out (one_more _ _ _ c.single-in-loop-edge.result (omega (arith, d, m.few_states)) c.single-in-loop-edge.ensures c.add-in-loop-edge.ensures);
    }

pub returns : goal.returns
returns c =
    let m = c.args.model.now in
    let edges = c.edges-edge-items in
    record {
      into = into_exact m (arrows_all m edges.result.now edges.ensures to_from c.loop-edge.edge-index c.loop-edge-test.false c.empty-into.ensures.none c.loop-edge.invariant.into);
      out = out_exact m (arrows_all m edges.result.now edges.ensures from_to c.loop-edge.edge-index c.loop-edge-test.false c.empty-out.ensures.none c.loop-edge.invariant.out);
    }
