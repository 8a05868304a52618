-- Brackets: their words, the rules that they tell, and when they are refused.
use Rattle.std.specs.Prelude.{◌≡◌, ℕ, suc, ◌≤◌, Bool, cond, not, ◌&&◌, ◌⊎◌, List, [], ◌∷◌, map, take, Option, ◌==◌}
use Rattle.model.specs.Refusals.{Refuse, Accept}
use Rattle.model.specs.Sizes.{Outside}
use Rattle.language.specs.Words.{Word, Known}
use Rattle.language.specs.declared.rule.Rule.{Rule}
use Rattle.language.specs.declared.rule.Rule.TheVariants.{Empty, Lead, Pair}
use Rattle.kinds.specs.Passing.{passing}
use Rattle.kinds.specs.declared.brackets.Brackets.{Brackets}

-- how often the action x stands in the word
abbrev pub times : ℕ → Word → ℕ
times x [] = 0
times x (a ∷ w) = cond (a == x) (suc (times x w)) (times x w)

-- as many ups as downs, and no beginning with more downs than ups
pub record Balanced (up down : ℕ) (w : Word) : Type 0 where
  pub as_many : times up w ≡ times down w
  pub never_more : (n : ℕ) → times down (take n w) ≤ times up (take n w)

-- the balanced words of known actions
pub record BracketWords (b : Brackets) (w : Word) : Type 0 where
  pub known_actions : Known b.actions w
  pub balanced : Balanced b.up b.down w

-- the action is neither up nor down
abbrev pub other_action : Brackets → ℕ → Bool
other_action b a = not (a == b.up) && not (a == b.down)

-- the actions other than up and down, in rising order
unfoldable pub others_of : Brackets → List ℕ
others_of b = passing (other_action b) 0 b.actions

-- what they tell
abbrev pub told : Brackets → List Rule
told b = Empty 0 ∷ Lead 0 b.up 1 ∷ Pair 1 0 2 ∷ Lead 2 b.down 0 ∷ map (λ a. Lead 0 a 0) (others_of b)

-- the causes of a refusal, in order
abbrev pub CauseBrackets : ℕ → ℕ → ℕ → Option ℕ → Type 0
CauseBrackets up down actions =
    Refuse ((actions ≤ up) ⊎ (actions ≤ down)) 2
    (Refuse (Outside 1 16 actions) 4
    (Refuse (up ≡ down) 6 Accept))

-- the brackets of these numbers
pub record BracketsMade (up down actions : ℕ) (b : Brackets) : Type 0 where
  pub up_is : b.up ≡ up
  pub down_is : b.down ≡ down
  pub actions_are : b.actions ≡ actions
