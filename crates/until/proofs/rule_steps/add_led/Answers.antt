use Rattle.std.proofs.Common.{◌≡◌, ◌<◌, List, length, get_or, Some, sym, ap, ◌∙◌, arith}
use Rattle.std.specs.List.{slice_get}
use Rattle.std.proofs.lemmas.Option.{slice_get-get_or}
use Rattle.model.specs.declared.edge.Edge.{Edge}
use Rattle.model.specs.Edges.{no_edge}
use Rattle.model.specs.Models.{edges_of}
use Rattle.model.proofs.Joins.{joined_none, joined_more}
use Rattle.until.proofs.Rows.{edge_more, among_all}
use Rattle.until.proofs.rule_steps.add_led.Goals as goal

-- the edge at a place of a list that is these edges
placed : (edges items : List Edge) (i : _) → items ≡ edges → i < length items → slice_get edges i ≡ Some (get_or items i no_edge)
placed edges items i e l = ap (λ xs. slice_get xs i) (sym e) ∙ slice_get-get_or items i no_edge l

pub loop-edge-init : goal.loop-edge-init
loop-edge-init c = joined_none _

pub loop-edge-preserved : goal.loop-edge-preserved
loop-edge-preserved c =
    let edges = edges_of c.args.guarded.now.model in
    let at = placed edges _ _ c.edges-edge-items.ensures c.loop-edge-test.true in
    joined_more _ _ c.loop-edge.invariant (edge_more edges c.loop-edge.edge-index _ at _ _ _ c.led.ensures (rw c.head.ensures at c.add.ensures))

pub returns : goal.returns
returns c = among_all (edges_of c.args.guarded.now.model) _ _ (omega (arith, ap length c.edges-edge-items.ensures, c.loop-edge-test.false)) c.loop-edge.invariant

pub led-requires-clause-to : goal.led-requires-clause-to
led-requires-clause-to c =
    let m = c.args.guarded.now.model in
    let inside = m.inside _ (c.loop-edge.edge-index, placed (edges_of m) _ _ c.edges-edge-items.ensures c.loop-edge-test.true) in
    omega (arith, inside.2, m.few_states)

pub add-requires-clause-second : goal.add-requires-clause-second
add-requires-clause-second c =
    let m = c.args.guarded.now.model in
    let inside = m.inside _ (c.loop-edge.edge-index, placed (edges_of m) _ _ c.edges-edge-items.ensures c.loop-edge-test.true) in
    omega (arith, inside.0, m.few_states)
