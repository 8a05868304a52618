use Rattle.std.proofs.Common.{Decides}
use Rattle.model.specs.Models.{Labelled}
use Rattle.model.proofs.Passing.{Passed}
use Rattle.model.proofs.model.Model.labelled.Given as goal

abbrev pub invariant-loop-s : goal.invariant-loop-s
invariant-loop-s l = Passed (λ u passes. Decides passes (Labelled l.self u l.p)) l.found l.s
