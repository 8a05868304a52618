use Rattle.std.proofs.Common.{◌<◌, refl, subst}
use Rattle.std.proofs.lemmas.Result.{err_from_is_err_and}
use Rattle.model.specs.declared.number_set.NumberSet.{NumberSet}
use Rattle.model.specs.Relations.{Exactly}
use Rattle.model.specs.Sets.{Has}
use Rattle.language.specs.Derivations.{Derives}
use Rattle.logic.specs.Paths.{SomeGood}
use Rattle.sheet.specs.Books.{model_of, formula}
use Rattle.sheet.proofs.Chains.{until_there}
use Rattle.sheet.proofs.Standing.{asked, asked_refused}
use Rattle.sheet.proofs.Marking.{marks_until}
use Rattle.sheet.proofs.sheet.Sheet.until.Goals as goal

pub returns-in_err-fitting-clause-asked : goal.returns-in_err-fitting-clause-asked
returns-in_err-fitting-clause-asked g c =
    let p = err_from_is_err_and c.from_residual.result c.from_residual.ensures.1 in
    rw (p.1, p.2) (asked_refused _ _ _ _ _ _ c.in_err-fitting.ensures.cause)

pub returns-clause-asked : goal.returns-clause-asked
returns-clause-asked g c =
    let m = model_of c.args.self.now in
    let rules = g.L.UntilLanguage.rules c.args.language.now in
    let words = g.L.UntilLanguage.words c.args.language.now in
    let x : NumberSet = c.satisfying-marks.result in
    let parts = c.in_ok-fitting.ensures.marks in
    let free = c.in_ok-fitting.ensures.cause in
    let there = until_there m _ _ c.args.guard c.args.goal _ free in
    let derived = subst (λ (y : NumberSet × NumberSet). Exactly (Has x) (λ s. (s < m.states) × SomeGood m (Has y.0) (Has y.1) (Derives rules 0) s)) parts (rw (c.of-guarded.ensures, c.in_ok-fitting.ensures.same) at c.satisfying-marks.ensures.derived) in
    let spelt = subst (λ (y : NumberSet × NumberSet). Exactly (Has x) (λ s. (s < m.states) × SomeGood m (Has y.0) (Has y.1) words s)) parts (rw (c.of-guarded.ensures, c.in_ok-fitting.ensures.same) at c.satisfying-marks.ensures.words) in
    asked _ _ _ _ _ _ x _ free c.add.ensures.number c.add.ensures.model c.add.ensures.added spelt
    (λ book st. marks_until m (formula book c.args.guard) (formula book c.args.goal) rules _ _ x derived (st.right c.args.guard there.0) (st.right c.args.goal there.1)) (λ _. (rules, refl))
