use Rattle.std.proofs.Common.{◌<◌, refl, subst}
use Rattle.model.specs.declared.number_set.NumberSet.{NumberSet}
use Rattle.model.specs.Relations.{Exactly}
use Rattle.model.specs.Sets.{Has}
use Rattle.sheet.specs.Books.{model_of, formula}
use Rattle.sheet.proofs.Chains.{part_there}
use Rattle.sheet.proofs.Standing.{asked}
use Rattle.sheet.proofs.Marking.{marks_not, without_exact}
use Rattle.sheet.proofs.sheet.Sheet.not.Goals as goal

pub returns : goal.returns
returns c =
    let m = model_of c.args.self.now in
    let q = c.args.q in
    let x : NumberSet = c.without-marks.result in
    let free = c.in_ok-part.ensures.cause in
    let all = subst (λ n. Exactly (Has c.below.result) (λ t. (t < n) × (t < 32))) c.states.ensures c.below.ensures in
    let exact = without_exact m.states c.below.result _ x m.few_states all (subst (λ y. Exactly (Has x) (λ t. Has c.below.result t × (Has y t → ⊥))) c.in_ok-part.ensures.marks c.without-marks.ensures) in
    asked _ _ _ _ _ _ x _ free c.add.ensures.number c.add.ensures.model c.add.ensures.added exact
    (λ book st. marks_not m (formula book q) _ x exact (st.right q (part_there _ q free))) (λ _. refl)
