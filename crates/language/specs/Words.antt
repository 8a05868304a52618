-- Words: lists of actions.
use Rattle.std.specs.Prelude.{ℕ, ◌<◌, List, [], ◌∷◌}

abbrev pub Word : Type 0
Word = List ℕ

-- every action of the word is below n
abbrev pub Known : ℕ → Word → Type 0
Known n [] = Unit {0}
Known n (a ∷ w) = (a < n) × Known n w
