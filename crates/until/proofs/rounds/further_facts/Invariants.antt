use Rattle.model.specs.Relations.{Joined}
use Rattle.language.specs.Rules.{BySome}
use Rattle.until.specs.Consequences.{GivesFresh}
use Rattle.triples.specs.Triples.{Holds}
use Rattle.until.proofs.rounds.further_facts.Given as goal

abbrev pub invariant-loop-rule : goal.invariant-loop-rule
invariant-loop-rule g l = Joined (Holds l.initial.found.rows) (Holds l.found.rows) (BySome (λ r f. GivesFresh l.guarded r (Holds l.parts.all.now.rows) (Holds l.parts.fresh.now.rows) f) l.yielded)
