-- Symbols whose facts between two states make one another without a step more.
use Rattle.std.specs.Prelude.{◌≡◌, ℕ, ◌+◌, ◌<◌, ◌⊎◌, List}
use Rattle.model.specs.declared.number_set.NumberSet.{NumberSet}
use Rattle.model.specs.Relations.{Among}
use Rattle.model.specs.Sets.{Has}
use Rattle.language.specs.declared.rule.Rule.{Rule}
use Rattle.language.specs.declared.rule.Rule.TheVariants.{Empty, Letter, Lead, Same, Pair}
use Rattle.language.specs.Rules.{head_of}
use Rattle.language.specs.Words.{Word}
use Rattle.language.specs.Derivations.{Derives}
use Rattle.least.specs.declared.table.Table.{Table}
use Rattle.least.specs.Walks.{GivesIn}
use Rattle.least.specs.Entries.{ground_of, entry_of}
use Rattle.path.specs.Unfolding.{Less}

-- the rule makes the fact from s to t with the entry e from that of Y with the same entry
abbrev pub Keeps : Table → ℕ → ℕ → ℕ → Rule → ℕ → Type 0
Keeps w s t e (Empty H) Y = ⊥
Keeps w s t e (Letter H a) Y = ⊥
Keeps w s t e (Lead H a B) Y = ⊥
Keeps w s t e (Same H B) Y = (Y ≡ B) × (entry_of w (B, s, t) ≡ e)
Keeps w s t e (Pair H B C) Y = ((Y ≡ C) × (entry_of w (B, s, s) ≡ 1) × (entry_of w (C, s, t) ≡ e)) ⊎ ((Y ≡ B) × (entry_of w (C, t, t) ≡ 1) × (entry_of w (B, s, t) ≡ e))

-- X is in the mask, and each symbol of the mask has the entry e and derives only what X derives
pub record Reached (rules : List Rule) (w : Table) (s t e X : ℕ) (mask : NumberSet) : Type 0 where
  pub first : Has mask X
  pub every : (y : ℕ) → Has mask y → (y < w.scope.symbols) × (entry_of w (y, s, t) ≡ e) × ((v : Word) → Derives rules y v → Derives rules X v)

-- no rule leads out of the mask
abbrev pub ReachShut : List Rule → Table → ℕ → ℕ → ℕ → NumberSet → Type 0
ReachShut rules w s t e mask = (r : Rule) (y : ℕ) → Among r rules → Has mask (head_of r) → Keeps w s t e r y → Has mask y

-- no rule with its head in the mask makes the fact from facts with fewer steps
abbrev pub NoShorter : Table → ℕ → ℕ → ℕ → NumberSet → Rule → Type 0
NoShorter w s t e mask r = Has mask (head_of r) → (n : ℕ) → e ≡ n + 1 → GivesIn (ground_of w.scope) r (Less w n) (Less w n) (head_of r, s, t) n → ⊥
