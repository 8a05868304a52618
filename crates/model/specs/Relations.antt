-- Relations between what holds before and after a step, over any kind of thing.
use Rattle.std.specs.Prelude.{◌≡◌, ℕ, ◌<◌, ◌⊎◌, List, Some}
use Rattle.std.specs.List.{slice_get}

-- three numbers: of a fact, an arrow or a stretch
abbrev pub Triple : Type 0
Triple = ℕ × ℕ × ℕ

-- x is one of the elements of the list
abbrev pub Among : {X : Type 0} → X → List X → Type 0
Among x xs = (k : ℕ) × (slice_get xs k ≡ Some x)

-- what holds after is what held before, and more, and nothing else
pub record Joined {X : Type 0} (before after more : X → Type 0) : Type 0 where
  pub keeps : (x : X) → before x → after x
  pub puts : (x : X) → more x → after x
  pub only : (x : X) → after x → before x ⊎ more x

-- what one of the first n steps adds
abbrev pub Upto : {X : Type 0} → (ℕ → X → Type 0) → ℕ → X → Type 0
Upto step n x = (k : ℕ) × (k < n) × step k x

-- the two say the same of everything
abbrev pub Exactly : {X : Type 0} → (X → Type 0) → (X → Type 0) → Type 0
Exactly {X} P Q = (x : X) → (P x → Q x) × (Q x → P x)

-- no two of the elements are equal
abbrev pub IsDistinct : {X : Type 0} → List X → Type 0
IsDistinct {X} xs = (i j : ℕ) (x : X) → i < j → slice_get xs i ≡ Some x → slice_get xs j ≡ Some x → ⊥
