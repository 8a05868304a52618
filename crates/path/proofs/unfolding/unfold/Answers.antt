use Rattle.std.proofs.Common.{◌≡◌, ◌+◌, [], ◌∷◌, reverse, length, sym, refl, ap, ◌∙◌, subst, arith, length-append}
use Rattle.std.proofs.lemmas.List.{length-reverse}
use Rattle.pile.specs.Items.{items, room}
use Rattle.path.specs.Unfolding.{Doing, wrote, parts, stepped}
use Rattle.path.proofs.Doing.{doing_start, doing_more, doing_end, turn, parts_length, zero_path}
use Rattle.path.proofs.Piles.{accepted, reverse_last, reverse_more}
use Rattle.path.proofs.unfolding.unfold.Goals as goal

pub returns-then-count-eq0 : goal.returns-then-count-eq0
returns-then-count-eq0 g c =
    let both = zero_path (g.L.UntilLanguage.rules c.args.language.now) c.args.table.now c.requires.sound c.args.fact c.args.count c.args.steps.now c.if-count-eq0.true c.requires.known.3 in
    record { guarded = both.0; derived = both.1; others = refl }

pub loop-next-init : goal.loop-next-init
loop-next-init g c =
    let empty = c.over-pile.ensures.empty in
    let there : room c.over-pile.result ≡ length c.args.waiting.now = c.over-pile.ensures.room in
    let pushed = accepted c.push.result _ _ _ (λ full. omega (arith, full, ap length empty, there, c.requires.waiting, c.if-count-eq0.false)) c.push.ensures.cause c.push.ensures.items in
    let e : reverse (items c.push.new.self) ≡ c.args.fact ∷ [] = reverse_last _ _ _ pushed ∙ ap (λ y. c.args.fact ∷ reverse y) empty in (
      subst (λ fs. Doing (g.L.UntilLanguage.rules c.args.language.now) c.args.table.now c.args.fact c.args.count c.args.steps.now fs c.args.steps.now 0) (sym e) (doing_start (g.L.UntilLanguage.rules c.args.language.now) c.args.table.now c.args.fact c.args.count c.args.steps.now (omega (arith, c.if-count-eq0.false)) c.requires.known.3),
      omega (arith, c.push.ensures.room, there, c.requires.waiting),
    )

pub split-found-requires-clause-known : goal.split-found-requires-clause-known
split-found-requires-clause-known g c =
    let d = subst (λ fs. Doing (g.L.UntilLanguage.rules c.args.language.now) c.args.table.now c.args.fact c.args.count c.args.steps.now fs c.loop-next.steps c.loop-next.written) (reverse_last _ _ _ c.in-Some.ensures.items) c.loop-next.invariant.0 in
    let t = turn (g.L.UntilLanguage.rules c.args.language.now) c.args.table.now c.args.fact c.args.count c.args.steps.now c.in-Some.next (reverse (items c.pop.new.self)) c.loop-next.steps c.loop-next.written (room c.pop.new.self) (omega (arith, c.loop-next.invariant.1, c.pop.ensures.room)) d in
    (t.steps, c.requires.known.0, t.some, omega (arith, t.few, c.requires.known.1), omega (arith, t.few, c.requires.few), c.requires.known.2, t.known)

pub advance-written-requires-clause-room : goal.advance-written-requires-clause-room
advance-written-requires-clause-room g c =
    let d = subst (λ fs. Doing (g.L.UntilLanguage.rules c.args.language.now) c.args.table.now c.args.fact c.args.count c.args.steps.now fs c.loop-next.steps c.loop-next.written) (reverse_last _ _ _ c.in-Some.ensures.items) c.loop-next.invariant.0 in
    let t = turn (g.L.UntilLanguage.rules c.args.language.now) c.args.table.now c.args.fact c.args.count c.args.steps.now c.in-Some.next (reverse (items c.pop.new.self)) c.loop-next.steps c.loop-next.written (room c.pop.new.self) (omega (arith, c.loop-next.invariant.1, c.pop.ensures.room)) d in
    let space = t.space c.split-found.result c.split-found.ensures in
    let long = length-reverse (items c.pop.new.self) in
    omega (arith, space.0)

pub loop-next-smaller : goal.loop-next-smaller
loop-next-smaller g c =
    let d = subst (λ fs. Doing (g.L.UntilLanguage.rules c.args.language.now) c.args.table.now c.args.fact c.args.count c.args.steps.now fs c.loop-next.steps c.loop-next.written) (reverse_last _ _ _ c.in-Some.ensures.items) c.loop-next.invariant.0 in
    let t = turn (g.L.UntilLanguage.rules c.args.language.now) c.args.table.now c.args.fact c.args.count c.args.steps.now c.in-Some.next (reverse (items c.pop.new.self)) c.loop-next.steps c.loop-next.written (room c.pop.new.self) (omega (arith, c.loop-next.invariant.1, c.pop.ensures.room)) d in
    let space = t.space c.split-found.result c.split-found.ensures in
    let long = length-reverse (items c.pop.new.self) in
    let before = simp length-append at (ap length c.in-Some.ensures.items) in
    let after = simp length-append at (ap length c.advance-written.ensures.items) in
    omega (arith, space.2, parts_length c.in-Some.next c.split-found.result, c.advance-written.ensures.written)

pub loop-next-preserved : goal.loop-next-preserved
loop-next-preserved g c =
    let d = subst (λ fs. Doing (g.L.UntilLanguage.rules c.args.language.now) c.args.table.now c.args.fact c.args.count c.args.steps.now fs c.loop-next.steps c.loop-next.written) (reverse_last _ _ _ c.in-Some.ensures.items) c.loop-next.invariant.0 in
    let t = turn (g.L.UntilLanguage.rules c.args.language.now) c.args.table.now c.args.fact c.args.count c.args.steps.now c.in-Some.next (reverse (items c.pop.new.self)) c.loop-next.steps c.loop-next.written (room c.pop.new.self) (omega (arith, c.loop-next.invariant.1, c.pop.ensures.room)) d in
    let space = t.space c.split-found.result c.split-found.ensures in
    let long = length-reverse (items c.pop.new.self) in
    let more = doing_more (g.L.UntilLanguage.rules c.args.language.now) c.args.table.now c.args.fact c.args.count c.args.steps.now c.split-found.result c.in-Some.next (reverse (items c.pop.new.self)) c.loop-next.steps c.loop-next.written (omega (arith, space.1, c.requires.steps, c.loop-next.auto.steps)) c.split-found.ensures d in (
      subst (λ n. Doing (g.L.UntilLanguage.rules c.args.language.now) c.args.table.now c.args.fact c.args.count c.args.steps.now (reverse (items c.advance-written.new.pile)) c.advance-written.new.steps n) (sym c.advance-written.ensures.written)
          (subst (λ xs. Doing (g.L.UntilLanguage.rules c.args.language.now) c.args.table.now c.args.fact c.args.count c.args.steps.now (reverse (items c.advance-written.new.pile)) xs (c.loop-next.written + wrote c.split-found.result)) (sym c.advance-written.ensures.steps)
          (subst (λ fs. Doing (g.L.UntilLanguage.rules c.args.language.now) c.args.table.now c.args.fact c.args.count c.args.steps.now fs (stepped c.split-found.result c.loop-next.steps c.loop-next.written) (c.loop-next.written + wrote c.split-found.result)) (sym (reverse_more (items c.advance-written.new.pile) (items c.pop.new.self) (parts c.in-Some.next c.split-found.result) c.advance-written.ensures.items)) more)),
      omega (arith, c.loop-next.invariant.1, c.pop.ensures.room, c.advance-written.ensures.room),
    )

pub returns-clause-derived : goal.returns-clause-derived
returns-clause-derived g c =
    let d = subst (λ fs. Doing (g.L.UntilLanguage.rules c.args.language.now) c.args.table.now c.args.fact c.args.count c.args.steps.now fs c.loop-next.steps c.loop-next.written) (ap reverse c.in_default.ensures.items) c.loop-next.invariant.0 in
    (doing_end (g.L.UntilLanguage.rules c.args.language.now) c.args.table.now c.args.fact c.args.count c.args.steps.now c.loop-next.steps c.loop-next.written d).1
