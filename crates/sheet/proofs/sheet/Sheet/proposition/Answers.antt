use Rattle.std.proofs.Common.{refl}
use Rattle.sheet.specs.Books.{model_of}
use Rattle.sheet.proofs.Standing.{asked}
use Rattle.sheet.proofs.Marking.{marks_proposition}
use Rattle.sheet.proofs.sheet.Sheet.proposition.Goals as goal

pub returns : goal.returns
returns c =
    let exact = c.labelled-marks.ensures in
    asked _ _ _ _ _ _ c.labelled-marks.result _ c.in_ok-check_proposition.ensures c.add.ensures.number c.add.ensures.model c.add.ensures.added exact
    (λ book st. marks_proposition (model_of c.args.self.now) c.args.p c.labelled-marks.result exact) (λ _. refl)
