-- What a search does to a table: it only lowers entries, and where it lowers none, no rule could.
use Rattle.std.specs.Prelude.{◌≡◌, ℕ, zero, suc, ◌+◌, ◌^◌, ◌<◌, ◌≤◌, Bool, true, false, ◌⊎◌, List, [], ◌∷◌, slice_index, slice_set}
use Rattle.model.specs.declared.edge.Edge.{Edge}
use Rattle.model.specs.Relations.{Among, Triple}
use Rattle.model.specs.Sets.{Has}
use Rattle.language.specs.declared.rule.Rule.{Rule}
use Rattle.language.specs.declared.rule.Rule.TheVariants.{Empty, Letter, Lead, Same, Pair}
use Rattle.least.specs.declared.table.Table.{Table}
use Rattle.least.specs.Walks.{GivesIn}
use Rattle.logic.specs.Layouts.{place}
use Rattle.least.specs.Entries.{ground_of, entry_of, In, Known, AtMost, Sound}

-- the entry at the cell was lowered to a candidate, or no candidate below the top is lower
pub record Lowers (top cell : ℕ) (Candidate : Table → ℕ → Type 0) (before after : Table) (fell : Bool) : Type 0 where
  pub same : after.scope ≡ before.scope
  pub wrote : fell ≡ true → (n : ℕ) × Candidate before n × (after.entries.now ≡ slice_set before.entries.now cell (n + 1)) × (n < top) × ((slice_index before.entries.now cell ≡ 0) ⊎ (n + 1 < slice_index before.entries.now cell))
  pub still : fell ≡ false → (after ≡ before) × ((n : ℕ) → Candidate before n → n < top → AtMost n (slice_index before.entries.now cell))

-- the candidates: a given entry; one entry and `more` steps; two entries together
abbrev pub Given : ℕ → Table → ℕ → Type 0
Given entry t n = entry ≡ n + 1

abbrev pub Lifted : ℕ → ℕ → Table → ℕ → Type 0
Lifted part more t n = (j : ℕ) × (slice_index t.entries.now part ≡ j + 1) × (n ≡ j + more)

abbrev pub Summed : ℕ → ℕ → Table → ℕ → Type 0
Summed left right t n = (i : ℕ) × (j : ℕ) × (slice_index t.entries.now left ≡ i + 1) × (slice_index t.entries.now right ≡ j + 1) × (n ≡ i + j)

-- the entries `known` and `second` together are less than `old` and at most the top
abbrev pub Lower : ℕ → ℕ → ℕ → ℕ → Type 0
Lower top known second old = (0 < second) × (known + second ≤ top + 1) × ((old ≡ 0) ⊎ (known + second ≤ old))

-- the sum of the entries, where none counts most
unfoldable pub weight : List ℕ → ℕ
weight [] = 0
weight (zero ∷ xs) = 2 ^ 32 + weight xs
weight (suc x ∷ xs) = suc x + weight xs

-- a run of lowerings: the table is about the same, a sound table stays sound, the table gets lighter if an entry fell, and
-- if none fell it is as before and shut
pub record Run (rules : List Rule) (Shut : Table → Type 0) (before after : Table) (fell : Bool) : Type 0 where
  pub same : after.scope ≡ before.scope
  pub sound : Sound rules before → Sound rules after
  pub less : fell ≡ true → weight after.entries.now < weight before.entries.now
  pub still : fell ≡ false → (after ≡ before) × Shut before

-- whatever the other rules are
abbrev pub Always : Rule → (Table → Type 0) → Table → Table → Bool → Type 0
Always r Shut before after fell = (rules : List Rule) → Among r rules → Run rules Shut before after fell

-- f and g together are no less than h
abbrev pub PairAt : ℕ → Triple → Triple → Triple → Table → Type 0
PairAt top f g h t = (n : ℕ) → Summed (place t.scope.states f) (place t.scope.states g) t n → n < top → AtMost n (entry_of t h)

-- nothing less comes by this edge before the fact f
abbrev pub LedAt : ℕ → ℕ → ℕ → Triple → Edge → Table → Type 0
LedAt top H a f e t = e.action ≡ a → Has t.scope.ground.now.guard e.from → e.to ≡ f.1 → (n : ℕ) → Lifted (place t.scope.states f) 1 t n → n < top → AtMost n (entry_of t (H, e.from, f.2))

-- the same for the fact of B to u, if its entry lies between low and high
abbrev pub LedIn : ℕ → ℕ → ℕ → ℕ → ℕ → ℕ → Edge → ℕ → Table → Type 0
LedIn top low high H a B e u t = low ≤ entry_of t (B, e.to, u) → entry_of t (B, e.to, u) ≤ high → LedAt top H a (B, e.to, u) e t

-- for all facts of B
abbrev pub LedAlong : ℕ → ℕ → ℕ → ℕ → ℕ → ℕ → Edge → Table → Type 0
LedAlong top low high H a B e t = (u : ℕ) → u < t.scope.states → LedIn top low high H a B e u t

-- nothing less comes by this edge alone
abbrev pub LetterAt : ℕ → ℕ → ℕ → Edge → Table → Type 0
LetterAt top H a e t = e.action ≡ a → Has t.scope.ground.now.guard e.from → (n : ℕ) → Given 2 t n → n < top → AtMost n (entry_of t (H, e.from, e.to))

-- nothing less comes by staying at s
abbrev pub EmptyAt : ℕ → ℕ → ℕ → Table → Type 0
EmptyAt top H s t = (n : ℕ) → Given 1 t n → n < top → AtMost n (entry_of t (H, s, s))

-- no fact
abbrev pub NoPart : Triple → ℕ → Type 0
NoPart p n = ⊥

-- the rule gives no less with no part
abbrev pub ShutStart : ℕ → Rule → Table → Type 0
ShutStart top r t = (p : Triple) (n : ℕ) → n < top → GivesIn (ground_of t.scope) r NoPart NoPart p n → AtMost n (entry_of t p)

-- the fact f alone, as the table has it
abbrev pub This : Table → Triple → Triple → ℕ → Type 0
This t f q j = (q ≡ f) × Known t q j

-- the rule gives no less with the fact f as its first part
abbrev pub ShutBy : ℕ → Rule → Triple → Table → Type 0
ShutBy top r f t = (p : Triple) (n : ℕ) → n < top → GivesIn (ground_of t.scope) r (This t f) (Known t) p n → AtMost n (entry_of t p)

-- the same, of a rule that has a part
abbrev pub ShutAt : ℕ → Rule → Triple → Table → Type 0
ShutAt top (Empty H) f t = Unit {0}
ShutAt top (Letter H a) f t = Unit {0}
ShutAt top (Lead H a B) f t = ShutBy top (Lead H a B) f t
ShutAt top (Same H B) f t = ShutBy top (Same H B) f t
ShutAt top (Pair H B C) f t = ShutBy top (Pair H B C) f t

-- the same, of a rule that has a part and makes no step of its own
abbrev pub ShutOn : ℕ → Rule → Triple → Table → Type 0
ShutOn top (Empty H) f t = Unit {0}
ShutOn top (Letter H a) f t = Unit {0}
ShutOn top (Lead H a B) f t = Unit {0}
ShutOn top (Same H B) f t = ShutBy top (Same H B) f t
ShutOn top (Pair H B C) f t = ShutBy top (Pair H B C) f t

-- the rule gives no less with the fact f as its second part
abbrev pub ShutSecond : ℕ → Rule → Triple → Table → Type 0
ShutSecond top (Empty H) f t = Unit {0}
ShutSecond top (Letter H a) f t = Unit {0}
ShutSecond top (Lead H a B) f t = Unit {0}
ShutSecond top (Same H B) f t = Unit {0}
ShutSecond top (Pair H B C) f t = C ≡ f.0 → (s : ℕ) → s < t.scope.states → PairAt top (B, s, f.1) f (H, s, f.2) t

-- nor as its first part; as its second one only if those are taken up
abbrev pub ShutTurn : ℕ → Bool → Rule → Triple → Table → Type 0
ShutTurn top seconds r f t = ShutOn top r f t × (seconds ≡ true → ShutSecond top r f t)

-- X is the symbol of the first part of such a rule
abbrev pub FirstPart : Rule → ℕ → Type 0
FirstPart (Empty H) X = ⊥
FirstPart (Letter H a) X = ⊥
FirstPart (Lead H a B) X = ⊥
FirstPart (Same H B) X = X ≡ B
FirstPart (Pair H B C) X = X ≡ B

-- if the fact's entry lies between low and high
abbrev pub ShutIn : ℕ → ℕ → ℕ → Rule → Triple → Table → Type 0
ShutIn top low high r f t = low ≤ entry_of t f → entry_of t f ≤ high → ShutOn top r f t

-- no rule with a part gives less with any fact whose entry lies there
abbrev pub ShutRule : ℕ → ℕ → ℕ → Rule → Table → Type 0
ShutRule top low high r t = (f : Triple) → In t.scope f → low ≤ entry_of t f → entry_of t f ≤ high → ShutAt top r f t

-- the same of all rules
abbrev pub ShutAll : List Rule → ℕ → ℕ → ℕ → Table → Type 0
ShutAll rules top low high t = (r : Rule) → Among r rules → ShutRule top low high r t

abbrev pub ShutStarts : List Rule → ℕ → Table → Type 0
ShutStarts rules top t = (r : Rule) → Among r rules → ShutStart top r t
