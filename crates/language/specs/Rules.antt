-- What a rule names.
use Rattle.std.specs.Prelude.{ℕ, ◌<◌, List}
use Rattle.model.specs.Relations.{Among}
use Rattle.language.specs.declared.rule.Rule.{Rule}
use Rattle.language.specs.declared.rule.Rule.TheVariants.{Empty, Letter, Lead, Same, Pair}

abbrev pub head_of : Rule → ℕ
head_of (Empty H) = H
head_of (Letter H a) = H
head_of (Lead H a B) = H
head_of (Same H B) = H
head_of (Pair H B C) = H

-- the symbols that the rule names are below k
abbrev pub SymbolsBelow : ℕ → Rule → Type 0
SymbolsBelow k (Empty H) = H < k
SymbolsBelow k (Letter H a) = H < k
SymbolsBelow k (Lead H a B) = (H < k) × (B < k)
SymbolsBelow k (Same H B) = (H < k) × (B < k)
SymbolsBelow k (Pair H B C) = (H < k) × (B < k) × (C < k)

-- the action that the rule names, if any, is below n
abbrev pub ActionsBelow : ℕ → Rule → Type 0
ActionsBelow n (Empty H) = Unit {0}
ActionsBelow n (Letter H a) = a < n
ActionsBelow n (Lead H a B) = a < n
ActionsBelow n (Same H B) = Unit {0}
ActionsBelow n (Pair H B C) = Unit {0}

-- the same of every rule of a list
abbrev pub RulesWithin : ℕ → List Rule → Type 0
RulesWithin k rules = (r : Rule) → Among r rules → SymbolsBelow k r

abbrev pub LettersWithin : ℕ → List Rule → Type 0
LettersWithin n rules = (r : Rule) → Among r rules → ActionsBelow n r

-- what some rule of a list says of a thing
abbrev pub BySome : {Y : Type 0} → (Rule → Y → Type 0) → List Rule → Y → Type 0
BySome says rules y = (r : Rule) × Among r rules × says r y
