-- Refusals: their numbers, and the order in which a call meets its causes.
use Rattle.std.specs.Prelude.{◌≡◌, ℕ, ◌⊎◌, Some, None, Ok, Err, Option, Result}
use Rattle.model.specs.declared.refusal.Refusal.{Refusal}
use Rattle.model.specs.declared.refusal.Refusal.TheVariants.{NoSuchState, NoSuchAction, NoSuchProposition, OutOfRange, NoSuchSymbol, Contradictory, OtherAlphabet, TooLarge, WorkTooShort, MemoryTooShort, NoSuchQuestion, SheetFull, TableFull, PathTooLong}

-- the number that is printed for a refusal
abbrev pub number : Refusal → ℕ
number NoSuchState = 1
number NoSuchAction = 2
number NoSuchProposition = 3
number OutOfRange = 4
number NoSuchSymbol = 5
number Contradictory = 6
number OtherAlphabet = 7
number TooLarge = 8
number WorkTooShort = 9
number MemoryTooShort = 10
number NoSuchQuestion = 21
number SheetFull = 22
number TableFull = 23
number PathTooLong = 24

-- what came of a call: the number of its refusal, or none
abbrev pub refusal : {X : Type 0} → Result X Refusal → Option ℕ
refusal (Ok x) = None
refusal (Err e) = Some (number e)

-- a call meets its causes in order: where the cause is met its number comes, otherwise what the later causes say
abbrev pub Refuse : Type 0 → ℕ → (Option ℕ → Type 0) → Option ℕ → Type 0
Refuse cause n later o = (cause × (o ≡ Some n)) ⊎ ((cause → ⊥) × later o)

-- after the last cause the call is accepted
abbrev pub Accept : Option ℕ → Type 0
Accept o = o ≡ None
