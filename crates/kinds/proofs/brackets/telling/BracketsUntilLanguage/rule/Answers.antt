use Rattle.std.proofs.Common.{rules, ◌≡◌, ◌-◌, None, Some, sym, ap, ◌∙◌, arith}
use Rattle.std.specs.List.{slice_get}
use Rattle.std.specs.Option.{option_map}
use Rattle.language.specs.declared.rule.Rule.TheVariants.{Lead}
use Rattle.kinds.specs.BracketWords.{others_of, told}
use Rattle.kinds.specs.Nesting.{others_marked, told_later}
use Rattle.kinds.proofs.brackets.telling.BracketsUntilLanguage.rule.Goals as goal

pub returns-in_err-action-in_default : goal.returns-in_err-action-in_default
returns-in_err-action-in_default c =
    let b = c.args.self.now in
    let e = others_marked b c.others-others.result c.others-others.ensures.marks in
    let none : slice_get (told b) c.args.place ≡ None = told_later b c.args.place (omega arith) ∙ ap (option_map (λ a. Lead 0 a 0)) (sym (ap (λ xs. slice_get xs (c.args.place - 4)) e) ∙ sym c.marked_at.ensures ∙ c.in_err-action-in_default.was) in
    search rules

pub returns-in_ok-action-in_default : goal.returns-in_ok-action-in_default
returns-in_ok-action-in_default c =
    let b = c.args.self.now in
    let e = others_marked b c.others-others.result c.others-others.ensures.marks in
    let last : slice_get (others_of b) (c.args.place - 4) ≡ Some c.in_ok-action-in_default.action = sym (ap (λ xs. slice_get xs (c.args.place - 4)) e) ∙ sym c.marked_at.ensures ∙ c.in_ok-action-in_default.was in
    sym (told_later b c.args.place (omega arith) ∙ ap (option_map (λ a. Lead 0 a 0)) last)
