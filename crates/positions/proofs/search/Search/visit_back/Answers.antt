use Rattle.std.proofs.Common.{◌<◌, sym, refl, subst}
use Rattle.model.specs.declared.number_set.NumberSet.{NumberSet}
use Rattle.model.specs.Sets.{Has}
use Rattle.model.proofs.Bits.{bit_none}
use Rattle.positions.specs.Pairs.{InRow}
use Rattle.positions.specs.Searches.{Leaves}
use Rattle.positions.specs.Looking.{table_of}
use Rattle.positions.proofs.Leadings.{into_row, back_row}
use Rattle.positions.proofs.Turns.{charted, looks_like, looks_taken}
use Rattle.positions.proofs.search.Search.visit_back.Goals as goal

pub visit_states-requires : goal.visit_states-requires
visit_states-requires g c =
    let s = c.args.self.now.setting in
    let q = c.in-Some.watch in
    let inv = c.loop-watch.invariant in
    let same = sym inv.looked.same in
    let starts = into_row s.watched.model.now (table_of s) s.charts (charted s) c.args.action c.args.position.state c.row-states.result c.requires.state c.row-states.ensures in
    let steps = back_row s.watched.model.now (table_of s) s.charts (charted s) c.args.action c.args.position.watch c.row-rest.result c.requires.watch c.row-rest.ensures in
    record {
      watch = subst (λ x. q < (table_of x).states) same ((steps q).0 (inv.inside q (c.in-Some.ensures.1.puts q refl))).0;
      leave = λ u h. subst (λ x. Leaves x.watched.model.now u) same (record { action = c.args.action; state = c.args.position.state }, (starts u).0 h);
    }

pub loop-watch-preserved : goal.loop-watch-preserved
loop-watch-preserved g c =
    let E = c.in-Some.ensures in
    let inv = c.loop-watch.invariant in
    record {
      looked = looks_taken c.args.self.now (λ k p. InRow k (Has c.row-states.result) p) c.row-rest.result c.loop-watch.rest c.take_last.new.self c.in-Some.watch c.loop-watch.self c.visit_states.new.self E.1 inv.looked c.visit_states.ensures;
      inside = λ u h. inv.inside u (E.1.keeps u h);
    }

pub returns : goal.returns
returns g c =
    let s = c.args.self.now.setting in
    let empty = c.in_default.ensures.0 in
    let starts = into_row s.watched.model.now (table_of s) s.charts (charted s) c.args.action c.args.position.state c.row-states.result c.requires.state c.row-states.ensures in
    let steps = back_row s.watched.model.now (table_of s) s.charts (charted s) c.args.action c.args.position.watch c.row-rest.result c.requires.watch c.row-rest.ensures in
    looks_like c.args.self.now c.loop-watch.self
    (λ p v. (p.1, (steps p.1).1 v.1, (λ h. bit_none p.1 (subst (λ (x : NumberSet). Has x p.1) empty h)), (refl, (starts p.0).1 v.0))) c.loop-watch.invariant.looked
