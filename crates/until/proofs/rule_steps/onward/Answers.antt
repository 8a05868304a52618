use Rattle.std.proofs.Common.{sym, ◌∙◌, subst}
use Rattle.std.proofs.lemmas.Bool.{eqb-true}
use Rattle.model.specs.Sets.{Bit}
use Rattle.triples.proofs.TripleRows.{through_more}
use Rattle.until.proofs.rule_steps.onward.Goals as goal

-- every state is reached
pub returns-then-eq : goal.returns-then-eq
returns-then-eq c =
    let all = eqb-true _ _ (sym c.eq.ensures ∙ c.if-eq.true) in
    let more = through_more c.args.rights.now.rows _ _ _ _ c.row.result c.args.right c.in-Some.state c.in-Some.ensures.0 c.row.ensures c.in-Some.ensures.1 c.union-found.ensures c.loop-state.invariant.0 in record {
      keeps = λ t h. c.union-found.ensures.keeps t (c.loop-state.invariant.1 t h);
      puts = λ t m. subst (λ n. Bit n t) (sym all) (c.requires.every _ m.2);
      only = more.keeps;
    }

pub loop-state-preserved : goal.loop-state-preserved
loop-state-preserved c = (
  through_more c.args.rights.now.rows _ _ _ _ c.row.result c.args.right c.in-Some.state c.in-Some.ensures.0 c.row.ensures c.in-Some.ensures.1 c.union-found.ensures c.loop-state.invariant.0,
  λ t h. c.union-found.ensures.keeps t (c.loop-state.invariant.1 t h),
)
