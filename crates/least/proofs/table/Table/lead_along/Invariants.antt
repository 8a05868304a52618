use Rattle.std.proofs.Common.{ℕ, ◌<◌}
use Rattle.language.specs.declared.rule.Rule.TheVariants.{Lead}
use Rattle.least.specs.Lowering.{Always, LedIn}
use Rattle.least.specs.Bands.{low_of, high_of}
use Rattle.least.proofs.table.Table.lead_along.Given as goal

abbrev pub invariant-loop-to : goal.invariant-loop-to
invariant-loop-to l = Always (Lead l.lead.head l.lead.action l.lead.rest)
    (λ t. (u : ℕ) → u < l.to → LedIn l.top (low_of l.band) (high_of l.band) l.lead.head l.lead.action l.lead.rest l.edge u t) l.initial.self l.self l.fell
