-- How a path is written out from the entries of a table, fact by fact.
use Rattle.std.specs.Prelude.{◌≡◌, ℕ, ◌+◌, ◌-◌, ◌<◌, List, [], ◌∷◌, ◌++◌, take, drop, slice_set}
use Rattle.model.specs.declared.edge.Edge.{Edge}
use Rattle.model.specs.declared.edge.Step.{Step}
use Rattle.model.specs.declared.number_set.NumberSet.{NumberSet}
use Rattle.model.specs.Sets.{Has}
use Rattle.language.specs.declared.rule.Rule.{Rule}
use Rattle.language.specs.Words.{Word}
use Rattle.language.specs.Derivations.{Derives}
use Rattle.logic.specs.Paths.{word}
use Rattle.model.specs.Relations.{Triple}
use Rattle.logic.specs.Facts.{Guarded}
use Rattle.least.specs.declared.fact.Fact.{Fact}
use Rattle.least.specs.declared.table.Table.{Table}
use Rattle.least.specs.Walks.{Leads}
use Rattle.least.specs.Entries.{ground_of, triple, entry_of, Known}
use Rattle.path.specs.declared.split.Split.{Split}
use Rattle.path.specs.declared.split.Split.TheVariants.{Last, Onward, Both}

-- the edge leads from s to t with the action, and the guard holds at s
abbrev pub StepsBy : NumberSet → ℕ → ℕ → ℕ → Edge → Type 0
StepsBy guard a s t e = (s ≡ e.from) × (e.action ≡ a) × (e.to ≡ t) × Has guard e.from

-- the parts B and C through u have at least a step each, and together as many as the entry e says
abbrev pub Sums : Table → ℕ → ℕ → ℕ → ℕ → ℕ → ℕ → Type 0
Sums w B C s t e u = (1 < entry_of w (B, s, u)) × (entry_of w (B, s, u) < e) × (entry_of w (C, u, t) ≡ e + 1 - entry_of w (B, s, u))

-- the table has the fact, with fewer than n steps
abbrev pub Less : Table → ℕ → Triple → ℕ → Type 0
Less w n q j = Known w q j × (j < n)

-- the split makes the fact f with n steps, from facts of fewer
abbrev pub Splits : List Rule → Table → Fact → ℕ → Split → Type 0
Splits rules w f n (Last a t) = (n ≡ 1) × (t ≡ f.to) × (e : Edge) × Leads (ground_of w.scope) a f.from e × (e.to ≡ t) × Derives rules f.symbol (a ∷ [])
Splits rules w f n (Onward a t B) = (e : Edge) × Leads (ground_of w.scope) a f.from e × (e.to ≡ t) × (j : ℕ) × (0 < j) × (n ≡ j + 1) × Known w (B, t, f.to) j
    × ((v : Word) → Derives rules B v → Derives rules f.symbol (a ∷ v))
Splits rules w f n (Both B u C) = (i : ℕ) × (j : ℕ) × (0 < i) × (0 < j) × (n ≡ i + j) × Known w (B, f.from, u) i × Known w (C, u, f.to) j
    × ((v x : Word) → Derives rules B v → Derives rules C x → Derives rules f.symbol (v ++ x))

-- the symbols of the facts derive the word, one after another
abbrev pub Spells : List Rule → List Fact → Word → Type 0
Spells rules [] w = w ≡ []
Spells rules (f ∷ fs) w = (u : Word) × (v : Word) × (w ≡ u ++ v) × Derives rules f.symbol u × Spells rules fs v

-- the facts follow one another from s to t, with n steps in all and at least one each
abbrev pub Follows : Table → ℕ → List Fact → ℕ → ℕ → Type 0
Follows w s [] t n = (s ≡ t) × (n ≡ 0)
Follows w s (f ∷ fs) t n = (f.from ≡ s) × (i : ℕ) × (j : ℕ) × (0 < i) × Known w (triple f) i × Follows w f.to fs t j × (n ≡ i + j)

-- the path of the fact so far, and the facts that are still to be written out, the next one first
pub record Doing (rules : List Rule) (w : Table) (fact : Fact) (count : ℕ) (old : List Step) (pending : List Fact) (steps : List Step) (written : ℕ) : Type 0 where
  pub at : ℕ
  pub left : ℕ
  pub path : Guarded (ground_of w.scope) fact.from (take written steps) at
  pub next : Follows w at pending fact.to left
  pub sum : written + left ≡ count
  pub gives : (x : Word) → Spells rules pending x → Derives rules fact.symbol (word (ground_of w.scope).model (take written steps) ++ x)
  pub others : drop count steps ≡ drop count old

-- how many facts a split lays on the pile
abbrev pub laid : Split → ℕ
laid (Last a t) = 0
laid (Onward a t B) = 1
laid (Both B u C) = 2

-- how many steps it writes
abbrev pub wrote : Split → ℕ
wrote (Last a t) = 1
wrote (Onward a t B) = 1
wrote (Both B u C) = 0

-- the facts that stand for f after the split, the next one last
abbrev pub parts : Fact → Split → List Fact
parts f (Last a t) = []
parts f (Onward a t B) = record { symbol = B; from = t; to = f.to } ∷ []
parts f (Both B u C) = record { symbol = C; from = u; to = f.to } ∷ (record { symbol = B; from = f.from; to = u } ∷ [])

-- the step list after the split
abbrev pub stepped : Split → List Step → ℕ → List Step
stepped (Last a t) steps n = slice_set steps n (record { action = a; state = t })
stepped (Onward a t B) steps n = slice_set steps n (record { action = a; state = t })
stepped (Both B u C) steps n = steps
