use Rattle.std.proofs.Common.{◌≡◌, Bool, true, false, refl, arith}
use Rattle.walks.proofs.Walks.{step_below}
use Rattle.charts.proofs.Drawings.{step_there}
use Rattle.positions.specs.Pairs.{pair}
use Rattle.positions.specs.Looking.{table_of}
use Rattle.positions.proofs.Leadings.{led_exact, out_row}
use Rattle.positions.proofs.Turns.{charted}
use Rattle.positions.proofs.search.Search.is_led_by.Goals as goal

surely : (b : Bool) → (b ≡ false → ⊥) → b ≡ true
surely true not = refl
surely false not = absurd (not refl)

pub step_of-next-requires : goal.step_of-next-requires
step_of-next-requires g c =
    let s = c.args.self.now.setting in
    step_there s.watched.model.now.actions (table_of s) (charted s).whole c.args.position.watch c.args.action c.requires.inside.1 c.requires.action

pub row-requires : goal.row-requires
row-requires g c =
    let s = c.args.self.now.setting in
    let l = step_below s.watched.model.now.actions (table_of s) (charted s).whole c.args.position.watch c.args.action c.requires.inside.1 c.requires.action in
    omega (arith, l, c.step_of-next.ensures, (charted s).small)

pub returns : goal.returns
returns g c =
    let s = c.args.self.now.setting in
    let (to, from) = led_exact s.watched.model.now (table_of s) c.args.self.now.found.rows (pair c.args.position) c.args.action c.step_of-next.result c.row-ends.result c.row.result c.without.result c.step_of-next.ensures
    (out_row s.watched.model.now (table_of s) s.charts (charted s) c.args.action c.args.position.state c.row-ends.result (omega (arith, c.requires.inside.0, s.watched.model.now.few_states)) c.row-ends.ensures) c.row.ensures c.without.ensures in
    (λ e. to (c.is_empty.ensures.none.0 e), λ all. surely c.is_empty.result (λ e. let (u, h) = c.is_empty.ensures.some e in from all u h))
