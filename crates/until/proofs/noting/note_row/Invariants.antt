use Rattle.std.proofs.Common.{◌≡◌, ℕ, ◌+◌}
use Rattle.model.specs.Sets.{Has}
use Rattle.until.specs.Notes.{Written}
use Rattle.until.proofs.noting.note_row.Given as goal

abbrev pub invariant-loop-to : goal.invariant-loop-to
invariant-loop-to l = Written (λ k. (t : ℕ) × (k ≡ l.base + t) × Has l.initial.rest t × (Has l.rest t → ⊥)) l.round l.initial.work l.work
    × ((t : ℕ) → Has l.rest t → Has l.initial.rest t)

abbrev pub decreases-loop-to : goal.decreases-loop-to
decreases-loop-to l = l.rest.bits
