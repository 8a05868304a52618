-- How many steps the path behind a fact has.
use Rattle.std.specs.Prelude.{◌≡◌, ℕ, ◌+◌, ◌<◌, List, length}
use Rattle.model.specs.declared.edge.Edge.{Edge}
use Rattle.model.specs.declared.edge.Step.{Step}
use Rattle.model.specs.Models.{HasEdge}
use Rattle.model.specs.Sets.{Has}
use Rattle.language.specs.declared.rule.Rule.{Rule}
use Rattle.language.specs.declared.rule.Rule.TheVariants.{Empty, Letter, Lead, Same, Pair}
use Rattle.language.specs.Derivations.{Derives, DerivesWithin}
use Rattle.logic.specs.Paths.{word}
use Rattle.model.specs.Relations.{Triple}
use Rattle.logic.specs.Facts.{Ground, Guarded}

-- some guarded path of n steps between the two states has a word that the symbol derives, by a tree of height at most h
abbrev pub WalkWithin : Ground → List Rule → ℕ → Triple → ℕ → Type 0
WalkWithin g rules h p n = (path : List Step) × Guarded g p.1 path p.2 × DerivesWithin rules h p.0 (word g.model path) × (length path ≡ n)

-- by a tree of any height
abbrev pub Walk : Ground → List Rule → Triple → ℕ → Type 0
Walk g rules p n = (path : List Step) × Guarded g p.1 path p.2 × Derives rules p.0 (word g.model path) × (length path ≡ n)

-- the edge leaves s with the action, and the guard holds there
abbrev pub Leads : Ground → ℕ → ℕ → Edge → Type 0
Leads g a s e = HasEdge g.model e × (s ≡ e.from) × (e.action ≡ a) × Has g.guard e.from

-- the rule makes the fact p with n steps, where F has the facts of its first part with their steps, and G those of its
-- second
abbrev pub GivesIn : Ground → Rule → (Triple → ℕ → Type 0) → (Triple → ℕ → Type 0) → Triple → ℕ → Type 0
GivesIn g (Empty H) F G p n = (p.0 ≡ H) × (p.1 < g.model.states) × (p.1 ≡ p.2) × (n ≡ 0)
GivesIn g (Letter H a) F G p n = (p.0 ≡ H) × (e : Edge) × Leads g a p.1 e × (p.2 ≡ e.to) × (n ≡ 1)
GivesIn g (Lead H a B) F G p n = (p.0 ≡ H) × (e : Edge) × Leads g a p.1 e × (j : ℕ) × F (B, e.to, p.2) j × (n ≡ j + 1)
GivesIn g (Same H B) F G p n = (p.0 ≡ H) × F (B, p.1, p.2) n
GivesIn g (Pair H B C) F G p n = (p.0 ≡ H) × (u : ℕ) × (i : ℕ) × (j : ℕ) × F (B, p.1, u) i × G (C, u, p.2) j × (n ≡ i + j)
