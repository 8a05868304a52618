use Rattle.std.proofs.Common.{refl, arith}
use Rattle.until.proofs.Notes.{written_none, written_like, number_written}
use Rattle.model.proofs.Bits.{has_none}
use Rattle.until.proofs.noting.note_row.Goals as goal

pub loop-to-init : goal.loop-to-init
loop-to-init c = (written_none _ _ _ (λ k m. m.3 m.2), λ t h. h)

pub overflow_add-work : goal.overflow_add-work
overflow_add-work c = let room = c.requires c.in-Some.to (c.loop-to.invariant.1 _ (c.in-Some.ensures.1.puts _ refl)) in omega arith

pub offset_bounds-work-base : goal.offset_bounds-work-base
offset_bounds-work-base c = let room = c.requires c.in-Some.to (c.loop-to.invariant.1 _ (c.in-Some.ensures.1.puts _ refl)) in omega arith

pub bounds-work-base : goal.bounds-work-base
bounds-work-base c = let room = c.requires c.in-Some.to (c.loop-to.invariant.1 _ (c.in-Some.ensures.1.puts _ refl)) in omega arith

pub loop-to-preserved : goal.loop-to-preserved
loop-to-preserved c =
    let taken = c.in-Some.ensures.1 in
    let room = c.requires c.in-Some.to (c.loop-to.invariant.1 _ (taken.puts _ refl)) in (
      number_written c.args.base c.args.round c.in-Some.to _ _ _ _ _ (omega arith) c.loop-to.invariant.1 taken c.in-Some.ensures.3 c.loop-to.invariant.0,
      λ t h. c.loop-to.invariant.1 t (taken.keeps t h),
    )

pub returns : goal.returns
returns c = written_like _ _ _ _ _ (λ k m. (m.0, m.1, m.2)) (λ k m. (m.0, m.1, m.2, λ h. has_none _ m.0 c.in_default.ensures.0 h)) c.loop-to.invariant.0
