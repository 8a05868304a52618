use Rattle.std.proofs.Common.{◌≡◌, ℕ, ◌-◌, ◌*◌, ◌<◌, ◌≤◌, get_or}
use Rattle.model.specs.Relations.{Exactly}
use Rattle.logic.specs.Facts.{FactWithin}
use Rattle.until.proofs.Facts.{New, Entry}
use Rattle.triples.specs.Triples.{Holds, size}
use Rattle.logic.specs.Layouts.{spot}
use Rattle.until.proofs.filling.fill.Given as goal

abbrev pub invariant-loop-size : goal.invariant-loop-size
invariant-loop-size g l = let m = l.guarded in let rules = g.L.UntilLanguage.rules l.language in
    (l.size ≡ size l.all.rows 512)
    × Exactly (Holds l.all.rows) (FactWithin m rules l.round)
    × Exactly (Holds l.fresh.rows) (New m rules l.round)
    × ((k : ℕ) → k < l.layout.symbols * l.layout.states * l.layout.states → Entry m rules l.round (spot l.layout.states k) (get_or l.work k 0))
    × ((k : ℕ) → l.layout.symbols * l.layout.states * l.layout.states ≤ k → get_or l.work k 0 ≡ get_or l.initial.work k 0)
    × (l.round ≤ l.size) × (l.size ≤ 16384)

abbrev pub decreases-loop-size : goal.decreases-loop-size
decreases-loop-size g l = 16384 - l.size
