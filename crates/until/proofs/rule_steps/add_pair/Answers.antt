use Rattle.std.proofs.Common.{sym, ◌∙◌, subst, arith}
use Rattle.std.proofs.lemmas.Bool.{eqb-true, not-false}
use Rattle.triples.specs.declared.triple_set.TripleSet.{TripleSet}
use Rattle.model.specs.Relations.{Exactly}
use Rattle.model.specs.Sets.{Has}
use Rattle.triples.specs.Triples.{Holds}
use Rattle.model.proofs.Joins.{joined_none, joined_more, joined_from}
use Rattle.triples.proofs.TripleRows.{row_grown}
use Rattle.until.proofs.Rows.{rows_all, pair_row, row_full}
use Rattle.until.proofs.rule_steps.add_pair.Goals as goal
use Rattle.until.proofs.rule_steps.add_pair.Goals.{then-ne, else-ne}

pub loop-from-init : goal.loop-from-init
loop-from-init c = joined_none _

pub loop-from-preserved : goal.loop-from-preserved
loop-from-preserved c = joined_more _ _ c.loop-from.invariant (elim c.if-ne.branch [
  | then-ne w ↦
      let middle = subst (λ x. Exactly (Has w.common-middle.result) (λ u. Has x u × Has c.seconds-starts.result u)) w.row.ensures w.common-middle.ensures in
      let grown = row_grown _ c.args.head c.loop-from.from _ _ _ (omega arith) c.row-row.ensures w.onward.ensures w.add.ensures in
      joined_from (λ (t : TripleSet). Holds t.rows) (sym w.found-is) (pair_row _ _ _ _ _ _ _ _ (omega arith) c.seconds-starts.ensures middle grown)
  | else-ne w ↦
      let all = eqb-true _ _ (not-false _ (sym c.ne.ensures ∙ w.if-ne.false)) in
      joined_from (λ (t : TripleSet). Holds t.rows) (sym w.found-is)
      (row_full _ c.args.head c.loop-from.from c.args.states _ _ _ (omega arith) c.requires.states c.row-row.ensures all c.below-every.ensures (λ f d. (d.0, (c.requires.rights _ d.3).2)))
])

pub returns : goal.returns
returns c = rows_all _ _ (λ f d. omega (arith, (c.requires.lefts _ d.2).1, c.loop-from-test.false)) c.loop-from.invariant
