use Rattle.std.proofs.Common.{sym, refl, subst, ⊎_elim}
use Rattle.positions.specs.Looking.{IsInside}
use Rattle.positions.proofs.Turns.{finds_taken}
use Rattle.positions.proofs.search.Search.doom_states.Goals as goal

pub doom-requires : goal.doom-requires
doom-requires g c =
    let s = c.in-Some.state in
    let inv = c.loop-state.invariant in
    let has = c.in-Some.ensures.1.puts s refl in
    let there = inv.inside s has in
    record {
      inside = subst (λ x. IsInside x (record { state = s; watch = c.args.watch })) (sym inv.found.same) (c.requires.states s there, c.requires.watch);
      new = λ h. ⊎_elim (c.requires.new s there) (λ m. m.2 has) (inv.found.laid.found.only (s, c.args.watch) h);
    }

pub loop-state-preserved : goal.loop-state-preserved
loop-state-preserved g c =
    let E = c.in-Some.ensures in
    let inv = c.loop-state.invariant in
    record {
      found = finds_taken c.args.self.now c.args.watch c.args.states c.loop-state.rest c.take_last.new.self c.in-Some.state c.loop-state.self c.doom.new.self E.1 E.3 inv.inside inv.found c.doom.ensures;
      inside = λ s h. inv.inside s (E.1.keeps s h);
    }
