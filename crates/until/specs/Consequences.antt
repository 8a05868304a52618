-- What a rule gives from facts, on the guarded edges of a model.
use Rattle.std.specs.Prelude.{◌≡◌, ℕ, ◌<◌, ◌⊎◌, List}
use Rattle.model.specs.declared.edge.Edge.{Edge}
use Rattle.model.specs.Models.{HasEdge}
use Rattle.model.specs.Relations.{Among, Triple}
use Rattle.model.specs.Sets.{Has}
use Rattle.triples.specs.Triples.{InRow}
use Rattle.language.specs.declared.rule.Rule.{Rule}
use Rattle.language.specs.declared.rule.Rule.TheVariants.{Empty, Letter, Lead, Same, Pair}
use Rattle.logic.specs.Facts.{Ground}

-- those of the facts that start at s
abbrev pub StartingAt : (Triple → Type 0) → ℕ → Triple → Type 0
StartingAt facts s f = (f.1 ≡ s) × facts f

-- a letter or lead rule comes to t by this edge first, out of a state where the guard holds
abbrev pub Led : Ground → Rule → (Triple → Type 0) → Edge → ℕ → Type 0
Led g (Empty H) facts e t = ⊥
Led g (Letter H a) facts e t = (e.action ≡ a) × Has g.guard e.from × (t ≡ e.to)
Led g (Lead H a B) facts e t = (e.action ≡ a) × Has g.guard e.from × facts (B, e.to, t)
Led g (Same H B) facts e t = ⊥
Led g (Pair H B C) facts e t = ⊥

-- what each form of rule gives: facts of its head
abbrev pub ByEmpty : ℕ → ℕ → Triple → Type 0
ByEmpty states head f = (f.0 ≡ head) × (f.1 < states) × (f.1 ≡ f.2)

abbrev pub ByEdge : Ground → ℕ → Rule → (Triple → Type 0) → Triple → Type 0
ByEdge g head rule facts f = (e : Edge) × HasEdge g.model e × InRow head e.from (Led g rule facts e) f

abbrev pub BySame : ℕ → ℕ → (Triple → Type 0) → Triple → Type 0
BySame head body facts f = (f.0 ≡ head) × facts (body, f.1, f.2)

abbrev pub ByPair : ℕ → ℕ → ℕ → (Triple → Type 0) → (Triple → Type 0) → Triple → Type 0
ByPair head left right firsts seconds f = (f.0 ≡ head) × (u : ℕ) × firsts (left, f.1, u) × seconds (right, u, f.2)

-- what a rule gives from the facts
abbrev pub Gives : Ground → Rule → (Triple → Type 0) → Triple → Type 0
Gives g (Empty H) facts = ByEmpty g.model.states H
Gives g (Letter H a) facts = ByEdge g H (Letter H a) facts
Gives g (Lead H a B) facts = ByEdge g H (Lead H a B) facts
Gives g (Same H B) facts = BySame H B facts
Gives g (Pair H B C) facts = ByPair H B C facts facts

-- what a rule gives that has no symbol in its body
abbrev pub GivesAlone : Ground → Rule → Triple → Type 0
GivesAlone g (Empty H) f = ByEmpty g.model.states H f
GivesAlone g (Letter H a) f = ByEdge g H (Letter H a) (λ _. ⊥) f
GivesAlone g (Lead H a B) f = ⊥
GivesAlone g (Same H B) f = ⊥
GivesAlone g (Pair H B C) f = ⊥

-- what a rule gives from all facts with at least one fresh fact among its parts
abbrev pub GivesFresh : Ground → Rule → (Triple → Type 0) → (Triple → Type 0) → Triple → Type 0
GivesFresh g (Empty H) all fresh f = ⊥
GivesFresh g (Letter H a) all fresh f = ⊥
GivesFresh g (Lead H a B) all fresh f = ByEdge g H (Lead H a B) fresh f
GivesFresh g (Same H B) all fresh f = BySame H B fresh f
GivesFresh g (Pair H B C) all fresh f = ByPair H B C fresh all f ⊎ ByPair H B C all fresh f

-- the same of some rule of a list
abbrev pub ByRules : Ground → List Rule → (Triple → Type 0) → Triple → Type 0
ByRules g rules facts f = (r : Rule) × Among r rules × Gives g r facts f

abbrev pub ByRulesAlone : Ground → List Rule → Triple → Type 0
ByRulesAlone g rules f = (r : Rule) × Among r rules × GivesAlone g r f

abbrev pub ByRulesFresh : Ground → List Rule → (Triple → Type 0) → (Triple → Type 0) → Triple → Type 0
ByRulesFresh g rules all fresh f = (r : Rule) × Among r rules × GivesFresh g r all fresh f
