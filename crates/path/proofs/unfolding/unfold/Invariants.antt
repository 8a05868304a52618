use Rattle.std.proofs.Common.{◌-◌, ◌*◌, ◌≤◌, reverse, length}
use Rattle.pile.specs.Items.{items, room}
use Rattle.path.specs.Unfolding.{Doing}
use Rattle.path.proofs.unfolding.unfold.Given as goal

abbrev pub invariant-loop-next : goal.invariant-loop-next
invariant-loop-next g l = Doing (g.L.UntilLanguage.rules l.language) l.table l.fn.fact l.count l.initial.steps (reverse (items l.pile)) l.steps l.written × (l.count ≤ room l.pile)

abbrev pub decreases-loop-next : goal.decreases-loop-next
decreases-loop-next g l = 2 * (l.count - l.written) - length (items l.pile)
