use Rattle.std.proofs.Common.{rules, ◌≡◌, ◌+◌}
use Rattle.std.specs.List.{fold}
use Rattle.std.proofs.lemmas.Iterator.{YieldsList-from_slice}
use Rattle.std.proofs.lemmas.Iterator.Consumers.{fold_from_yields_List}
use Rattle.path.proofs.Levels.{lesser, above, least_there, none_there}
use Rattle.path.proofs.search.next_level.Goals as goal

pub returns-then-next-past-clause-above : goal.returns-then-next-past-clause-above
returns-then-next-past-clause-above c =
    let found : c.fold-next.result ≡ fold (lesser c.args.level c.args.top) (c.args.top + 1) c.args.entries.now = fold_from_yields_List _ (lesser c.args.level c.args.top) _ _ c.fold-next.ensures.ran (YieldsList-from_slice c.args.entries.now cc) (λ a x b q called. search rules) in
    above _ _ c.args.entries.now _ found c.if-next-past.true

pub returns-then-next-past-clause-least : goal.returns-then-next-past-clause-least
returns-then-next-past-clause-least c =
    let found : c.fold-next.result ≡ fold (lesser c.args.level c.args.top) (c.args.top + 1) c.args.entries.now = fold_from_yields_List _ (lesser c.args.level c.args.top) _ _ c.fold-next.ensures.ran (YieldsList-from_slice c.args.entries.now cc) (λ a x b q called. search rules) in
    least_there _ _ c.args.entries.now _ found c.if-next-past.true

pub returns-else-next-past-clause-least : goal.returns-else-next-past-clause-least
returns-else-next-past-clause-least c =
    let found : c.fold-next.result ≡ fold (lesser c.args.level c.args.top) (c.args.top + 1) c.args.entries.now = fold_from_yields_List _ (lesser c.args.level c.args.top) _ _ c.fold-next.ensures.ran (YieldsList-from_slice c.args.entries.now cc) (λ a x b q called. search rules) in
    none_there _ _ c.args.entries.now _ found c.if-next-past.false
