use Rattle.std.proofs.Common.{refl, subst}
use Rattle.model.specs.declared.number_set.NumberSet.{NumberSet}
use Rattle.model.specs.Relations.{Joined}
use Rattle.model.specs.Sets.{Has}
use Rattle.sheet.specs.Books.{model_of, formula}
use Rattle.sheet.proofs.Chains.{parts_there}
use Rattle.sheet.proofs.Standing.{asked}
use Rattle.sheet.proofs.Marking.{marks_or, union_exact}
use Rattle.sheet.proofs.sheet.Sheet.or.Goals as goal

pub returns : goal.returns
returns c =
    let m = model_of c.args.self.now in
    let x : NumberSet = c.union.result in
    let free = c.in_ok-one.ensures.cause in
    let there = parts_there _ c.args.left c.args.right free in
    let exact = union_exact _ _ x (subst (λ (y : NumberSet × NumberSet). Joined (Has y.0) (Has x) (Has y.1)) c.in_ok-one.ensures.marks c.union.ensures) in
    asked _ _ _ _ _ _ x _ free c.add.ensures.number c.add.ensures.model c.add.ensures.added exact
    (λ book st. marks_or m (formula book c.args.left) (formula book c.args.right) _ _ x exact (st.right c.args.left there.0) (st.right c.args.right there.1)) (λ _. refl)
