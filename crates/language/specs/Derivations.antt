-- Which words the rules derive from a symbol.
use Rattle.std.specs.Prelude.{◌≡◌, ℕ, zero, suc, List, [], ◌∷◌, ◌++◌}
use Rattle.model.specs.Relations.{Among}
use Rattle.language.specs.Words.{Word}
use Rattle.language.specs.declared.rule.Rule.{Rule}
use Rattle.language.specs.declared.rule.Rule.TheVariants.{Empty, Letter, Lead, Same, Pair}

-- the rule gives the symbol X the word w, where `below` says what the symbols of its body give
abbrev pub Yields : Rule → (ℕ → Word → Type 0) → ℕ → Word → Type 0
Yields (Empty H) below X w = (X ≡ H) × (w ≡ [])
Yields (Letter H a) below X w = (X ≡ H) × (w ≡ a ∷ [])
Yields (Lead H a B) below X w = (X ≡ H) × (v : Word) × (w ≡ a ∷ v) × below B v
Yields (Same H B) below X w = (X ≡ H) × below B w
Yields (Pair H B C) below X w = (X ≡ H) × (u : Word) × (v : Word) × (w ≡ u ++ v) × below B u × below C v

-- the rules derive the word from the symbol by a tree of height at most h; a rule with no symbol in its body has height 1
abbrev pub DerivesWithin : List Rule → ℕ → ℕ → Word → Type 0
DerivesWithin rules zero X w = ⊥
DerivesWithin rules (suc h) X w = (r : Rule) × Among r rules × Yields r (DerivesWithin rules h) X w

-- by a tree of some height
abbrev pub Derives : List Rule → ℕ → Word → Type 0
Derives rules X w = (h : ℕ) × DerivesWithin rules h X w
