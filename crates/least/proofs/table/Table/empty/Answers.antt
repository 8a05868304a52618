use Rattle.std.proofs.Common.{◌≡◌, ◌*◌, length, get_or, take, drop, replicate, ap, ◌∙◌, arith, length-take-le}
use Rattle.std.proofs.lemmas.List.{get_or_append_left, get_or-replicate}
use Rattle.logic.specs.Layouts.{place}
use Rattle.least.proofs.Runs.{place_in}
use Rattle.least.proofs.table.Table.empty.Goals as goal

pub returns-clause-none : goal.returns-clause-none
returns-clause-none c p i =
    let entries = c.args.entries.now in
    let cells = c.entries.result in
    let at = place c.args.scope.states p in
    let zeros = c.fill.new.self in
    let count : cells ≡ c.args.scope.symbols * c.args.scope.states * c.args.scope.states = c.entries.ensures ∙ (cc) in
    let within = place_in c.args.scope cells p (omega (arith, count)) i in
    let long : length zeros ≡ cells = c.fill.ensures.len ∙ length-take-le cells entries (omega (arith, count, c.requires)) in
    let all : zeros ≡ replicate (length (take cells entries)) 0 = c.fill.ensures.after (λ y e. e) in
    get_or_append_left zeros (drop cells entries) 0 at (omega arith) ∙ ap (λ xs. get_or xs at 0) all ∙ get_or-replicate _ at 0 0 (omega arith)
