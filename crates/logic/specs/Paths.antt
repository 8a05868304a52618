-- Paths of a model: lists of steps from a state. A step has its action and the state that it reaches.
use Rattle.std.specs.Prelude.{List, [], ◌∷◌, ℕ}
use Rattle.model.specs.declared.edge.Edge.{Edge}
use Rattle.model.specs.declared.edge.Step.{Step}
use Rattle.model.specs.declared.model.Model.{Model}
use Rattle.model.specs.Models.{HasEdge}
use Rattle.language.specs.Words.{Word}

-- the edge along which a step leaves s
abbrev pub edge : ℕ → Step → Edge
edge s x = record { from = s; action = x.action; to = x.state }

-- the steps are edges of the model, each from where the last one ended
abbrev pub Chain : Model → ℕ → List Step → Type 0
Chain m s [] = Unit {0}
Chain m s (x ∷ p) = HasEdge m (edge s x) × Chain m x.state p

-- the state in which a path from s ends
abbrev pub end : ℕ → List Step → ℕ
end s [] = s
end s (x ∷ p) = end x.state p

-- the word of a path of the model: its actions
abbrev pub word : Model → List Step → Word
word m [] = []
word m (x ∷ p) = x.action ∷ word m p

-- G holds at every state of the path but the last
abbrev pub Before : (ℕ → Type 0) → ℕ → List Step → Type 0
Before G s [] = Unit {0}
Before G s (x ∷ p) = G s × Before G x.state p

-- a path from s is good for a guard G, a goal H and a set of words W
pub record Good (m : Model) (G H : ℕ → Type 0) (W : Word → Type 0) (s : ℕ) (p : List Step) : Type 0 where
  pub path : Chain m s p
  pub guarded : Before G s p
  pub ends : H (end s p)
  pub spells : W (word m p)

-- some good path starts at s
abbrev pub SomeGood : Model → (ℕ → Type 0) → (ℕ → Type 0) → (Word → Type 0) → ℕ → Type 0
SomeGood m G H W s = (p : List Step) × Good m G H W s p
