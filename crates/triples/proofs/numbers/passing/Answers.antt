use Rattle.std.proofs.Common.{sym, ◌∙◌, arith}
use Rattle.std.proofs.lemmas.Bool.{false≢true}
use Rattle.model.specs.Sets.{Has}
use Rattle.model.proofs.Joins.{joined_like, joined_from}
use Rattle.model.proofs.Passing.{passed_more}
use Rattle.triples.proofs.numbers.passing.Goals as goal
use Rattle.triples.proofs.numbers.passing.Goals.{then-test, else-test}

pub loop-t-preserved : goal.loop-t-preserved
loop-t-preserved g c = passed_more _ c.loop-t.found c.if-test.found c.loop-t.t c.test.result c.test.ensures
    (λ yes. elim c.if-test.branch [
      | then-test w ↦ joined_from Has (sym w.found-is) (joined_like _ _ (λ u h. ((w.single.ensures u).0 h).0) (λ u e. (w.single.ensures u).1 (e, omega (arith, c.loop-t-test.true, c.requires.few))) w.union-found.ensures)
      | else-test w ↦ absurd (false≢true (sym w.if-test.false ∙ yes))
    ])
    (λ no. elim c.if-test.branch [
      | then-test w ↦ absurd (false≢true (sym no ∙ w.if-test.true))
      | else-test w ↦ w.found-is
    ])
    c.loop-t.invariant

pub returns-clause-tested : goal.returns-clause-tested
returns-clause-tested g c = λ t l. c.loop-t.invariant.tested t (omega (arith, c.loop-t-test.false))
