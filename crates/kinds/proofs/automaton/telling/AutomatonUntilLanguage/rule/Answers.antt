use Rattle.std.proofs.Common.{◌≡◌, ◌-◌, ◌≤◌, rules, arith, length, None, Some, sym, ap, ◌∙◌}
use Rattle.std.specs.List.{slice_get}
use Rattle.std.specs.Option.{option_map}
use Rattle.language.specs.declared.rule.Rule.TheVariants.{Empty}
use Rattle.kinds.specs.Automata.{edges_of, finals_of, told}
use Rattle.kinds.specs.Members.{past_end}
use Rattle.kinds.specs.Told.{told_edge, told_rest}
use Rattle.kinds.proofs.automaton.telling.AutomatonUntilLanguage.rule.Goals as goal

pub returns-in-Some : goal.returns-in-Some
returns-in-Some c = sym (told_edge c.args.self.now c.args.place c.in-Some.edge (sym c.get.ensures ∙ c.in-Some.is))

pub overflow_sub-place : goal.overflow_sub-place
overflow_sub-place c = omega (arith, c.len.ensures.count, past_end (edges_of c.args.self.now) c.args.place (sym c.get.ensures ∙ c.in_default.is))

pub returns-in_err-head : goal.returns-in_err-head
returns-in_err-head c =
    let m = c.args.self.now in
    let past : length (edges_of m) ≤ c.args.place = past_end (edges_of m) c.args.place (sym c.get.ensures ∙ c.in_default.is) in
    let none : slice_get (told m) c.args.place ≡ None = told_rest m c.args.place past ∙ ap (option_map (λ q. Empty q)) (ap (λ n. slice_get (finals_of m) (c.args.place - n)) (sym c.len.ensures.count) ∙ sym c.marked_at.ensures ∙ c.in_err-head.was) in
    search rules

pub returns : goal.returns
returns c =
    let m = c.args.self.now in
    let past : length (edges_of m) ≤ c.args.place = past_end (edges_of m) c.args.place (sym c.get.ensures ∙ c.in_default.is) in
    let last : slice_get (finals_of m) (c.args.place - length (edges_of m)) ≡ Some c.in_ok-head.head = ap (λ n. slice_get (finals_of m) (c.args.place - n)) (sym c.len.ensures.count) ∙ sym c.marked_at.ensures ∙ c.in_ok-head.was in
    sym (told_rest m c.args.place past ∙ ap (option_map (λ q. Empty q)) last)
