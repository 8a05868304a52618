-- The search: pairs that are found, and of these the ones that wait on a pile. F frees, and t is the watcher's table.
use Rattle.std.specs.Prelude.{◌≡◌, ℕ, ◌+◌, ◌*◌, ◌<◌, ◌≤◌, ◌⊎◌, List, [], ◌∷◌, length, slice_index, slice_index_or, slice_set}
use Rattle.model.specs.declared.edge.Step.{Step}
use Rattle.model.specs.declared.number_set.NumberSet.{NumberSet}
use Rattle.model.specs.declared.model.Model.{Model}
use Rattle.model.specs.Relations.{Joined}
use Rattle.model.specs.Models.{HasEdge}
use Rattle.model.specs.Sets.{Has}
use Rattle.triples.specs.Triples.{size}
use Rattle.language.specs.Tables.{Table, step}
use Rattle.logic.specs.Paths.{edge}
use Rattle.pile.specs.declared.base.Pile.{Pile}
use Rattle.pile.specs.Items.{items, room}
use Rattle.walks.specs.Releases.{Forced, DoomedWithin}
use Rattle.positions.specs.declared.position.Position.{Position}
use Rattle.positions.specs.Pairs.{pair, Holds}
use Rattle.charts.specs.Arrows.{Into, Out, Back}

-- the pair is on the pile
abbrev pub On : List Position → ℕ × ℕ → Type 0
On [] p = ⊥
On (x ∷ xs) p = (p ≡ pair x) ⊎ On xs p

-- found, and not waiting
abbrev pub Done : List NumberSet → Pile Position → ℕ → ℕ → Type 0
Done rows pile s q = Holds rows (s, q) × (On (items pile) (s, q) → ⊥)

-- some edge leaves the state
abbrev pub Leaves : Model → ℕ → Type 0
Leaves m s = (x : Step) × HasEdge m (edge s x)

-- each edge from the pair by the action leads to a pair of the rows
abbrev pub LedBy : Model → Table → List NumberSet → ℕ × ℕ → ℕ → Type 0
LedBy m t rows p a = (u : ℕ) → Out m (a, p.0, u) → Holds rows (u, step t p.1 a)

-- each edge from the pair leads to a pair of the rows
abbrev pub Led : Model → Table → List NumberSet → ℕ × ℕ → Type 0
Led m t rows p = (x : Step) → HasEdge m (edge p.0 x) → Holds rows (x.state, step t p.1 x.action)

-- the number that is noted for a pair
abbrev pub noted_at : List (List ℕ) → ℕ × ℕ → ℕ
noted_at actions p = slice_index (slice_index_or actions p.1 []) p.0

-- the numbers with another one for a pair
abbrev pub noting : List (List ℕ) → ℕ × ℕ → ℕ → List (List ℕ)
noting actions p n = slice_set actions p.1 (slice_set (slice_index_or actions p.1 []) p.0 n)

-- by each action below the number noted for a pair, every edge from it leads to a pair of the rows
abbrev pub Noted : Model → Table → List NumberSet → List (List ℕ) → Type 0
Noted m t rows actions = (p : ℕ × ℕ) → p.0 < 32 → (a : ℕ) → a < noted_at actions p → LedBy m t rows p a

-- by the action an edge and a step of the table lead to the pair p
abbrev pub BackBy : Model → Table → ℕ × ℕ → ℕ → ℕ × ℕ → Type 0
BackBy m t p a r = Into m (a, p.0, r.0) × Back m.actions t (a, p.1, r.1)

-- each pair of the rows is one, and doomed; it breaks before as many moments as there are pairs
abbrev pub Sound : Model → Table → (ℕ → Type 0) → (ℕ → Type 0) → List NumberSet → Type 0
Sound m t F K rows = (p : ℕ × ℕ) → Holds rows p → (p.0 < m.states) × (p.1 < t.states) × DoomedWithin m t F K (size rows 32) p.0 p.1

-- the pairs found are there, what waits is found, no more wait than are found, and there is room for all pairs
pub record Roomy (m : Model) (watches : ℕ) (rows : List NumberSet) (pile : Pile Position) : Type 0 where
  pub inside : (p : ℕ × ℕ) → Holds rows p → (p.0 < m.states) × (p.1 < watches)
  pub waits : (p : ℕ × ℕ) → On (items pile) p → Holds rows p
  pub few : length (items pile) ≤ size rows 32
  pub space : m.states * watches ≤ room pile

-- the pairs D are found and laid on the pile
pub record Laid (rows : List NumberSet) (pile : Pile Position) (more : List NumberSet) (higher : Pile Position) (D : ℕ × ℕ → Type 0) : Type 0 where
  pub found : Joined (Holds rows) (Holds more) D
  pub laid : Joined (On (items pile)) (On (items higher)) D
  pub fits : length (items higher) + size rows 32 ≤ length (items pile) + size more 32
  pub room : room higher ≡ room pile

-- the pairs V have been looked at: those that are forced now are found, and nothing is found that is not doomed
pub record Looked (m : Model) (t : Table) (F : ℕ → Type 0) (V : ℕ × ℕ → Type 0) (rows : List NumberSet) (pile : Pile Position) (more : List NumberSet) (higher : Pile Position) : Type 0 where
  pub keeps : (p : ℕ × ℕ) → Holds rows p → Holds more p
  pub done : (s q : ℕ) → Done more higher s q → Done rows pile s q
  pub fits : length (items higher) + size rows 32 ≤ length (items pile) + size more 32
  pub room : room higher ≡ room pile
  pub sound : (k : NumberSet) → Sound m t F (Has k) rows → Sound m t F (Has k) more
  pub looked : (p : ℕ × ℕ) → V p → Forced m t F (Done more higher) p.0 p.1 → Holds more p

-- every pair that is forced by what is done is found
abbrev pub Ready : Model → Table → (ℕ → Type 0) → List NumberSet → Pile Position → Type 0
Ready m t F rows pile = (s q : ℕ) → q < t.states → Forced m t F (Done rows pile) s q → Holds rows (s, q)
