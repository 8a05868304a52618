use Rattle.path.proofs.Nearest.{sound_by}
use Rattle.path.proofs.search.sweep_level.Goals as goal

pub returns-then-fell-clause-sound : goal.returns-then-fell-clause-sound
returns-then-fell-clause-sound g c = sound_by c.rules.ensures.rules c.sweep-fell.ensures

pub returns-else-fell-clause-sound : goal.returns-else-fell-clause-sound
returns-else-fell-clause-sound g c = sound_by c.rules.ensures.rules c.sweep-fell.ensures
