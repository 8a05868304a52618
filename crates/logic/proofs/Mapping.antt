-- What a path or a maximal path is good for, under facts that say the same at the model's states.
use mathlib.Core.List.{List, [], ◌∷◌}
use mathlib.Core.Logic.{inl, inr, ⊎_elim}
use Prim.Native.Nat.{ℕ, ◌<◌}
use Rattle.model.specs.declared.edge.Step.{Step}
use Rattle.model.specs.declared.model.Model.{Model}
use Rattle.language.specs.Words.{Word}
use Rattle.logic.specs.Paths.{edge, Chain, Before, Good, SomeGood}
use Rattle.logic.specs.Maximal.{Maximal, Keeps, SomeKeeps}
use Rattle.logic.proofs.Inside.{end_inside, state_inside}

-- one fact follows from another at each state of the model
abbrev pub Follows : Model → (ℕ → Type 0) → (ℕ → Type 0) → Type 0
Follows m P Q = (t : ℕ) → t < m.states → P t → Q t

pub before_map : (m : Model) (G G' : ℕ → Type 0) → Follows m G G' → (s : ℕ) → s < m.states → (p : List Step) → Chain m s p → Before G s p → Before G' s p
before_map m G G' g s l [] chain held = tt
before_map m G G' g s l (x ∷ p) (here, rest) (now, later) = (g s l now, before_map m G G' g x.state (m.inside (edge s x) here).2 p rest later)

module _ (m : Model) (G G' H H' : ℕ → Type 0) (W W' : Word → Type 0) (s : ℕ) (l : s < m.states) where
  pub good_map : Follows m G G' → Follows m H H' → ((w : Word) → W w → W' w) → (p : List Step) → Good m G H W s p → Good m G' H' W' s p
  good_map g h w p good = record {
    path = good.path;
    guarded = before_map m G G' g s l p good.path good.guarded;
    ends = h _ (end_inside m s p l good.path) good.ends;
    spells = w _ good.spells;
  }

  pub some_good_map : Follows m G G' → Follows m H H' → ((w : Word) → W w → W' w) → SomeGood m G H W s → SomeGood m G' H' W' s
  some_good_map g h w (p, good) = (p, good_map g h w p good)

  pub keeps_map : Follows m G G' → Follows m H H' → ((w : Word) → W' w → W w) → (π : Maximal m s) → Keeps G H W π → Keeps G' H' W' π
  keeps_map g h w π keeps n moment met = ⊎_elim
      (λ k. inl (h _ (state_inside π n l) k))
      (λ f. inr (f.0, f.1, g _ (state_inside π f.0 l) f.2))
      (keeps n moment (w _ met))

  pub some_keeps_map : Follows m G G' → Follows m H H' → ((w : Word) → W' w → W w) → SomeKeeps m G H W s → SomeKeeps m G' H' W' s
  some_keeps_map g h w (π, keeps) = (π, keeps_map g h w π keeps)
