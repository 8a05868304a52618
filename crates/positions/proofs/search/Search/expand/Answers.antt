use Rattle.std.proofs.Common.{subst}
use Rattle.positions.specs.Pairs.{pair}
use Rattle.positions.specs.Searches.{BackBy}
use Rattle.positions.specs.Looking.{table_of, Looks}
use Rattle.positions.proofs.Turns.{looks_more}
use Rattle.positions.proofs.search.Search.expand.Goals as goal

pub loop-action-preserved : goal.loop-action-preserved
loop-action-preserved g c =
    let s = c.args.self.now.setting in
    let before = c.loop-action.invariant in
    looks_more c.args.self.now (BackBy s.watched.model.now (table_of s) (pair c.args.position)) c.loop-action.action c.loop-action.self c.visit_back.new.self before
    (subst (λ x. Looks (BackBy x.watched.model.now (table_of x) (pair c.args.position) c.loop-action.action) c.loop-action.self c.visit_back.new.self) before.same c.visit_back.ensures)
