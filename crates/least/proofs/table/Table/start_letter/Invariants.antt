use Rattle.std.proofs.Common.{◌≡◌, ℕ, ◌<◌, Some}
use Rattle.std.specs.List.{slice_get}
use Rattle.model.specs.declared.edge.Edge.{Edge}
use Rattle.model.specs.Models.{edges_of}
use Rattle.language.specs.declared.rule.Rule.TheVariants.{Letter}
use Rattle.least.specs.Lowering.{Always, LetterAt}
use Rattle.least.proofs.table.Table.start_letter.Given as goal

abbrev pub invariant-loop-edge : goal.invariant-loop-edge
invariant-loop-edge l = Always (Letter l.head l.action)
    (λ t. (i : ℕ) → i < l.edge-index → (e : Edge) → slice_get (edges_of l.initial.self.scope.ground.now.model) i ≡ Some e → LetterAt l.top l.head l.action e t) l.initial.self l.self l.fell
