use Rattle.model.specs.Relations.{Joined}
use Rattle.language.specs.Rules.{BySome}
use Rattle.until.specs.Consequences.{GivesAlone}
use Rattle.triples.specs.Triples.{Holds}
use Rattle.until.proofs.rounds.first_facts.Given as goal

abbrev pub invariant-loop-rule : goal.invariant-loop-rule
invariant-loop-rule g l = Joined (Holds l.initial.found.rows) (Holds l.found.rows) (BySome (λ r f. GivesAlone l.guarded r f) l.yielded)
