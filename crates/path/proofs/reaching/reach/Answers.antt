use Rattle.std.proofs.Common.{◌≡◌, arith}
use lib.Count.{ones}
use Rattle.path.proofs.Splitting.{reached_more}
use Rattle.path.proofs.Sizes.{grows, back}
use Rattle.path.proofs.reaching.reach.Goals as goal

pub loop-span-smaller : goal.loop-span-smaller
loop-span-smaller g c =
    grows _ _ c.reach_once-more.ensures.joined.keeps (omega (arith, c.count.ensures)) (λ e. omega (arith, e, c.count.ensures.0, c.count-in-loop-span.ensures.0, c.if-count.false))

pub loop-span-preserved : goal.loop-span-preserved
loop-span-preserved g c = reached_more _ c.args.table.now c.requires.sound _ _ c.requires.there.from c.requires.there.to _ _ _ _ c.reach_once-more.ensures.within c.loop-span.invariant c.reach_once-more.ensures.joined

pub returns-then-count-clause-shut : goal.returns-then-count-clause-shut
returns-then-count-clause-shut g c r y r∈ hm kp =
    let same : ones c.reach_once-more.result.bits ≡ ones c.loop-span.mask.bits = omega (arith, c.count.ensures.0, c.count-in-loop-span.ensures.0, c.if-count.true) in
    back c.loop-span.mask.bits c.reach_once-more.result.bits c.reach_once-more.ensures.joined.keeps same y (c.reach_once-more.ensures.joined.puts y (r, r∈, (hm, kp)))
