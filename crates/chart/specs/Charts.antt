-- Which symbols derive which stretches of a word: a symbol and two places of the word are a triple.
use Rattle.std.specs.Prelude.{◌≡◌, ℕ, ◌+◌, ◌≤◌, List, [], ◌∷◌, length, Some}
use Rattle.std.specs.List.{slice_get}
use Rattle.model.specs.Relations.{Among, Triple}
use Rattle.language.specs.Words.{Word}
use Rattle.language.specs.Rules.{head_of}
use Rattle.language.specs.Derivations.{Derives}
use Rattle.language.specs.declared.rule.Rule.{Rule}
use Rattle.language.specs.declared.rule.Rule.TheVariants.{Empty, Letter, Lead, Same, Pair}

-- the actions of u stand between the places i and j of w
abbrev pub Spells : Word → ℕ → Word → ℕ → Type 0
Spells w i [] j = (i ≡ j) × (i ≤ length w)
Spells w i (a ∷ u) j = (slice_get w i ≡ Some a) × Spells w (i + 1) u j

-- the symbol derives what stands between the two places
abbrev pub Stretch : Word → List Rule → Triple → Type 0
Stretch w rules p = (u : Word) × Spells w p.1 u p.2 × Derives rules p.0 u

-- the rule gives its head the stretch from place i to place j, where the facts say what its body gives
abbrev pub Gives : Word → Rule → (Triple → Type 0) → ℕ → ℕ → Type 0
Gives w (Empty H) facts i j = j ≡ i
Gives w (Letter H a) facts i j = (slice_get w i ≡ Some a) × (j ≡ i + 1)
Gives w (Lead H a B) facts i j = (slice_get w i ≡ Some a) × facts (B, i + 1, j)
Gives w (Same H B) facts i j = facts (B, i, j)
Gives w (Pair H B C) facts i j = (k : ℕ) × facts (B, i, k) × facts (C, k, j)

-- the same as a fact of the rule's head
abbrev pub ByRule : Word → Rule → (Triple → Type 0) → Triple → Type 0
ByRule w r facts p = (p.0 ≡ head_of r) × (p.1 ≤ length w) × Gives w r facts p.1 p.2

-- what some rule gives
abbrev pub ByRules : Word → List Rule → (Triple → Type 0) → Triple → Type 0
ByRules w rules facts p = (r : Rule) × Among r rules × ByRule w r facts p
