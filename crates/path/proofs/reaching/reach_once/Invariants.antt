use Rattle.model.specs.Relations.{Joined}
use Rattle.model.specs.Sets.{Has}
use Rattle.language.specs.Rules.{head_of, BySome}
use Rattle.path.specs.Reaching.{Keeps}
use Rattle.path.proofs.reaching.reach_once.Given as goal

abbrev pub invariant-loop-rule : goal.invariant-loop-rule
invariant-loop-rule g l = Joined (Has l.mask) (Has l.more) (BySome (λ x y. Has l.mask (head_of x) × Keeps l.table l.span.from l.span.to l.span.worth x y) l.yielded)
