use Rattle.path.proofs.search.sought.Goals as goal

pub returns-clause-sound : goal.returns-clause-sound
returns-clause-sound g c = c.settled-2.ensures.sound (c.settled.ensures.sound (c.grow-level.ensures.sound c.requires.sound))
