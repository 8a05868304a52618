use Rattle.std.proofs.Common.{◌≡◌, ◌+◌, ◌-◌, ◌<◌, length, get_or, take, drop, replicate, ap, ◌∙◌, inl, inr, arith, length-take-le, get_or-drop}
use native.Mathlib.Decide.{dec_lt}
use Rattle.std.proofs.lemmas.List.{get_or_append_left, get_or-append_right, get_or-replicate}
use Rattle.until.proofs.noting.clear.Goals as goal

pub returns : goal.returns
returns c k =
    let work = c.args.work.now in
    let cells = c.args.cells in
    let zeros = c.fill.new.self in
    let long : length zeros ≡ cells = c.fill.ensures.len ∙ length-take-le cells work c.requires in
    let all : zeros ≡ replicate (length (take cells work)) 0 = c.fill.ensures.after (λ y e. e) in
    let back : ¬ k < cells → cells + (k - cells) ≡ k = λ m. omega arith in
    elim (dec_lt k cells) [
      | yes l ↦ inl (l, get_or_append_left zeros (drop cells work) 0 k (omega arith) ∙ ap (λ xs. get_or xs k 0) all ∙ get_or-replicate _ k 0 0 (omega arith))
      | no l ↦ inr (l, get_or-append_right zeros (drop cells work) cells k 0 long (omega arith) ∙ get_or-drop cells work (k - cells) 0 ∙ ap (λ i. get_or work i 0) (back l))
    ]
