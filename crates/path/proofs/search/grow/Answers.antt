use Rattle.path.proofs.Nearest.{sound_by}
use Rattle.path.proofs.search.grow.Goals as goal

pub returns-then-is_some-clause-sound : goal.returns-then-is_some-clause-sound
returns-then-is_some-clause-sound g c s = c.loop-level.invariant.sound (sound_by c.rules.ensures.rules c.start.ensures s)

pub returns-in_default-clause-sound : goal.returns-in_default-clause-sound
returns-in_default-clause-sound g c s = c.sweep_level.ensures.sound (c.loop-level.invariant.sound (sound_by c.rules.ensures.rules c.start.ensures s))

pub returns-clause-sound : goal.returns-clause-sound
returns-clause-sound g c s = c.loop-level.invariant.sound (sound_by c.rules.ensures.rules c.start.ensures s)
