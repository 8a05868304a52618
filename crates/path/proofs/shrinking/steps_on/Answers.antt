use Rattle.std.proofs.Common.{◌≡◌, ◌-◌, ◌<◌, Some, length, sym, ap, ◌∙◌, subst, arith, rules}
use Rattle.std.specs.List.{slice_get}
use Rattle.std.proofs.lemmas.Iterator.{YieldsList-from_slice, first_from_find}
use Rattle.std.proofs.lemmas.Iterator.Adapters.{serves_from_places}
use Rattle.model.specs.declared.edge.Edge.{Edge}
use Rattle.model.specs.Models.{edges_of}
use Rattle.model.proofs.Joins.{same_place, place_before}
use Rattle.least.specs.Entries.{entry_of}
use Rattle.least.proofs.Turns.{item_in}
use Rattle.path.specs.Unfolding.{StepsBy}
use Rattle.path.proofs.shrinking.steps_on.Goals as goal

pub find-requires-clause-callable : goal.find-requires-clause-callable
find-requires-clause-callable c = serves_from_places (YieldsList-from_slice c.edges.result.now cc) (λ x q r. search rules)
    (λ x k l is y e _ _ _ _ _ _ _ _ _. ((k, subst (λ z. slice_get (edges_of c.args.table.now.scope.ground.now.model) k ≡ Some z) (sym is ∙ sym (ap (λ b. b.now) e)) (item_in _ _ _ _ c.edges.ensures l)), (c.requires.rest, c.requires.worth)))

pub returns-in_err-edge : goal.returns-in_err-edge
returns-in_err-edge c =
    let Leads : Edge → Type 0 = λ e. StepsBy c.args.table.now.scope.ground.now.guard c.args.action c.args.span.from e.to e × (entry_of c.args.table.now (c.args.rest, e.to, c.args.span.to) ≡ c.args.span.worth - 1) in
    let first = first_from_find _ _ c.find.result Leads (λ e. Leads e → ⊥) c.find.ensures.ran (YieldsList-from_slice c.edges.result.now cc) (λ x q k. search rules) (λ x q k. search rules) in
    let none = rw c.in_err-edge.was at first in
    rw c.from_residual.ensures (λ e e∈ s z.
    let l : e∈.0 < length c.edges.result.now = omega (arith, place_before (edges_of c.args.table.now.scope.ground.now.model) e∈.0 e e∈.1, ap length c.edges.ensures) in
    subst (λ x. Leads x → ⊥) (same_place (edges_of c.args.table.now.scope.ground.now.model) e∈.0 _ e (item_in _ _ _ e c.edges.ensures l) e∈.1) (none e∈.0 e (omega arith) l) (s, z))

pub returns : goal.returns
returns c =
    let Leads : Edge → Type 0 = λ e. StepsBy c.args.table.now.scope.ground.now.guard c.args.action c.args.span.from e.to e × (entry_of c.args.table.now (c.args.rest, e.to, c.args.span.to) ≡ c.args.span.worth - 1) in
    let first = first_from_find _ _ c.find.result Leads (λ e. Leads e → ⊥) c.find.ensures.ran (YieldsList-from_slice c.edges.result.now cc) (λ x q k. search rules) (λ x q k. search rules) in
    let (leads, i, l, at, before) = rw c.in_ok-edge.was at first in
    (c.in_ok-edge.edge.now, (i, subst (λ z. slice_get (edges_of c.args.table.now.scope.ground.now.model) i ≡ Some z) (at c.in_ok-edge.edge.now) (item_in _ _ _ _ c.edges.ensures l)), leads.0, leads.1)
