use Rattle.std.proofs.Common.{◌≡◌, ℕ, ◌<◌, Some}
use Rattle.std.specs.List.{slice_get}
use Rattle.model.specs.declared.edge.Edge.{Edge}
use Rattle.model.specs.Models.{edges_of}
use Rattle.language.specs.declared.rule.Rule.TheVariants.{Lead}
use Rattle.least.specs.Lowering.{Always, LedAlong}
use Rattle.least.specs.Bands.{low_of, high_of}
use Rattle.least.proofs.table.Table.sweep_lead.Given as goal

abbrev pub invariant-loop-edge : goal.invariant-loop-edge
invariant-loop-edge l = Always (Lead l.lead.head l.lead.action l.lead.rest)
    (λ t. (i : ℕ) → i < l.edge-index → (e : Edge) → slice_get (edges_of l.initial.self.scope.ground.now.model) i ≡ Some e → LedAlong l.top (low_of l.band) (high_of l.band) l.lead.head l.lead.action l.lead.rest e t) l.initial.self l.self l.fell
