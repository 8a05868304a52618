-- Maximal paths: they end in a state with no edge out, or never. Moment n is reached after n edges.
use Rattle.std.specs.Prelude.{List, [], ◌∷◌, ◌⊎◌, ℕ, zero, suc, ◌<◌, ◌≤◌, length, take}
use Rattle.model.specs.declared.edge.Step.{Step}
use Rattle.model.specs.declared.model.Model.{Model}
use Rattle.model.specs.Models.{HasEdge}
use Rattle.language.specs.Words.{Word}
use Rattle.logic.specs.Paths.{edge, Chain, end, word}

-- no edge leaves s
abbrev pub Dead : Model → ℕ → Type 0
Dead m s = (x : Step) → HasEdge m (edge s x) → ⊥

-- the first n steps of an endless path
abbrev pub first : (ℕ → Step) → ℕ → List Step
first f zero = []
first f (suc n) = f zero ∷ first (λ k. f (suc k)) n

pub data Maximal (m : Model) (s : ℕ) : Type 0 where
  stopped : (p : List Step) → Chain m s p → Dead m (end s p) → Maximal m s
  endless : (f : ℕ → Step) → ((n : ℕ) → Chain m s (first f n)) → Maximal m s

-- the path has a moment n
abbrev pub Moment : {m : Model} {s : ℕ} → Maximal m s → ℕ → Type 0
Moment (stopped p c d) n = n ≤ length p
Moment (endless f c) n = Unit {0}

-- the steps before moment n
abbrev pub before : {m : Model} {s : ℕ} → Maximal m s → ℕ → List Step
before (stopped p c d) n = take n p
before (endless f c) n = first f n

-- the state at moment n
abbrev pub state_at : {m : Model} {s : ℕ} → Maximal m s → ℕ → ℕ
state_at {m} {s} π n = end s (before π n)

-- at each moment whose word is in W: K holds there, or F at some earlier moment
abbrev pub Keeps : {m : Model} {s : ℕ} → (ℕ → Type 0) → (ℕ → Type 0) → (Word → Type 0) → Maximal m s → Type 0
Keeps {m} {s} F K W π = (n : ℕ) → Moment π n → W (word m (before π n)) → K (state_at π n) ⊎ ((k : ℕ) × (k < n) × F (state_at π k))

-- this fails at moment n
abbrev pub BreaksAt : {m : Model} {s : ℕ} → (ℕ → Type 0) → (ℕ → Type 0) → (Word → Type 0) → Maximal m s → ℕ → Type 0
BreaksAt {m} {s} F K W π n = Moment π n × W (word m (before π n)) × (K (state_at π n) → ⊥) × ((k : ℕ) → k < n → F (state_at π k) → ⊥)

-- some maximal path from s keeps it
abbrev pub SomeKeeps : Model → (ℕ → Type 0) → (ℕ → Type 0) → (Word → Type 0) → ℕ → Type 0
SomeKeeps m F K W s = (π : Maximal m s) × Keeps F K W π
