use Rattle.std.proofs.Common.{rules, sym, ◌∙◌, arith}
use Rattle.std.proofs.lemmas.Bool.{false≢true}
use Rattle.model.specs.Sets.{Has}
use Rattle.model.proofs.Joins.{joined_like, joined_from}
use Rattle.model.proofs.Passing.{passed_more, passed_exactly}
use Rattle.model.proofs.model.Model.labelled.Goals as goal
use Rattle.model.proofs.model.Model.labelled.Goals.{then-has, else-has}

pub loop-s-preserved : goal.loop-s-preserved
loop-s-preserved c = passed_more _ c.loop-s.found c.if-has.found c.loop-s.s c.has.result (search rules)
    (λ yes. elim c.if-has.branch [
      | then-has w ↦ joined_from Has (sym w.found-is) (joined_like _ _ (λ u h. ((w.single.ensures u).0 h).0) (λ u e. (w.single.ensures u).1 (e, omega (arith, c.loop-s-test.true, c.args.self.now.few_states))) w.union-found.ensures)
      | else-has w ↦ absurd (false≢true (sym w.if-has.false ∙ yes))
    ])
    (λ no. elim c.if-has.branch [
      | then-has w ↦ absurd (false≢true (sym no ∙ w.if-has.true))
      | else-has w ↦ w.found-is
    ])
    c.loop-s.invariant

pub returns : goal.returns
returns c = passed_exactly c.loop-s.found _ (search rules) (search rules) (λ t b l post. post)
