-- A path of a model stays among its states.
use mathlib.Core.List.{List, [], ◌∷◌}
use Prim.Native.Nat.{ℕ, zero, suc, ◌<◌}
use lib.ListN.{take}
use Rattle.model.specs.declared.edge.Step.{Step}
use Rattle.model.specs.declared.model.Model.{Model}
use Rattle.logic.specs.Paths.{edge, Chain, end}
use Rattle.logic.specs.Maximal.{Maximal, stopped, endless, before, state_at}

pub end_inside : (m : Model) (s : ℕ) (p : List Step) → s < m.states → Chain m s p → end s p < m.states
end_inside m s [] l chain = l
end_inside m s (x ∷ p) l (here, rest) = end_inside m x.state p (m.inside (edge s x) here).2 rest

-- the first steps of a path are a path
pub chain_take : (m : Model) (s : ℕ) (p : List Step) (n : ℕ) → Chain m s p → Chain m s (take n p)
chain_take m s p zero chain = tt
chain_take m s [] (suc n) chain = tt
chain_take m s (x ∷ p) (suc n) (here, rest) = (here, chain_take m x.state p n rest)

pub chain_before : {m : Model} {s : ℕ} (π : Maximal m s) (n : ℕ) → Chain m s (before π n)
chain_before {m} {s} (stopped p c d) n = chain_take m s p n c
chain_before {m} {s} (endless f c) n = c n

pub state_inside : {m : Model} {s : ℕ} (π : Maximal m s) (n : ℕ) → s < m.states → state_at π n < m.states
state_inside {m} {s} π n l = end_inside m s (before π n) l (chain_before π n)
