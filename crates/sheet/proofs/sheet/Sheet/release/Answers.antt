use Rattle.std.proofs.Common.{◌<◌, refl, subst}
use Rattle.std.proofs.lemmas.Result.{err_from_is_err_and}
use Rattle.model.specs.declared.number_set.NumberSet.{NumberSet}
use Rattle.model.specs.Relations.{Exactly}
use Rattle.model.specs.Sets.{Has}
use Rattle.language.specs.Tables.{Accepts}
use Rattle.logic.specs.Maximal.{SomeKeeps}
use Rattle.sheet.specs.Books.{model_of, formula}
use Rattle.sheet.proofs.Chains.{release_there}
use Rattle.sheet.proofs.Standing.{asked, asked_refused}
use Rattle.sheet.proofs.Marking.{marks_release}
use Rattle.sheet.proofs.sheet.Sheet.release.Goals as goal

pub returns-in_err-watched : goal.returns-in_err-watched
returns-in_err-watched g c =
    let p = err_from_is_err_and c.from_residual.result c.from_residual.ensures.1 in
    rw (p.1, p.2) (asked_refused _ _ _ _ _ _ c.in_err-watched.ensures.cause)

pub returns : goal.returns
returns g c =
    let m = model_of c.args.self.now in
    let t = g.W.Watcher.table c.args.watcher.now in
    let words = g.W.Watcher.words c.args.watcher.now in
    let x : NumberSet = c.keeping-marks.result in
    let parts = c.in_ok-watched.ensures.marks in
    let free = c.in_ok-watched.ensures.cause in
    let there = release_there m _ t c.args.freeing c.args.kept _ free in
    let accepted = subst (λ (y : NumberSet × NumberSet). Exactly (Has x) (λ s. (s < m.states) × SomeKeeps m (Has y.0) (Has y.1) (Accepts t) s)) parts (rw (c.in_ok-watched.ensures.watcher, c.in_ok-watched.ensures.model) at c.keeping-marks.ensures.accepted.exact) in
    let spelt = subst (λ (y : NumberSet × NumberSet). Exactly (Has x) (λ s. (s < m.states) × SomeKeeps m (Has y.0) (Has y.1) words s)) parts (rw (c.in_ok-watched.ensures.watcher, c.in_ok-watched.ensures.model) at c.keeping-marks.ensures.words.exact) in
    asked _ _ _ _ _ _ x _ free c.add.ensures.number c.add.ensures.model c.add.ensures.added spelt
    (λ book st. marks_release m (formula book c.args.freeing) (formula book c.args.kept) t _ _ x accepted (st.right c.args.freeing there.0) (st.right c.args.kept there.1)) (λ _. (t, refl))
