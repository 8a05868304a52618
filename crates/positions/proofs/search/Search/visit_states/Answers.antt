use Rattle.std.proofs.Common.{◌≡◌, sym, refl, subst}
use Rattle.positions.specs.Searches.{Leaves}
use Rattle.positions.proofs.Turns.{looks_taken}
use Rattle.positions.proofs.search.Search.visit_states.Goals as goal

pub visit-requires-clause-leaves : goal.visit-requires-clause-leaves
visit-requires-clause-leaves g c =
    let s = c.in-Some.state in
    let inv = c.loop-state.invariant in
    subst (λ x. Leaves x.watched.model.now s) (sym inv.looked.same) (c.requires.leave s (inv.inside s (c.in-Some.ensures.1.puts s refl)))

pub loop-state-preserved : goal.loop-state-preserved
loop-state-preserved g c =
    let E = c.in-Some.ensures in
    let inv = c.loop-state.invariant in
    record {
      looked = looks_taken c.args.self.now (λ k p. p ≡ (k, c.args.watch)) c.args.states c.loop-state.rest c.take_last.new.self c.in-Some.state c.loop-state.self c.visit.new.self E.1 inv.looked c.visit.ensures;
      inside = λ u h. inv.inside u (E.1.keeps u h);
    }
