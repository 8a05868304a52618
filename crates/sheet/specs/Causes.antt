-- The causes of each call on a sheet of n questions, in their order.
use Rattle.std.specs.Prelude.{ℕ, ◌*◌, ◌<◌, ◌≤◌, min, ◌≢◌, ◌⊎◌, List, length, Option}
use Rattle.model.specs.declared.edge.Step.{Step}
use Rattle.model.specs.declared.model.Model.{Model}
use Rattle.model.specs.Refusals.{Refuse, Accept}
use Rattle.language.specs.declared.rule.Rule.{Rule}
use Rattle.language.specs.Limits.{BeyondLimits}
use Rattle.language.specs.Tables.{Table}

-- an asking call needs room for one question more
abbrev pub Full : ℕ → Option ℕ → Type 0
Full n = Refuse (64 ≤ n) 22 Accept

abbrev pub CauseProposition : ℕ → ℕ → Option ℕ → Type 0
CauseProposition p n = Refuse (31 < p) 3 (Full n)

abbrev pub CauseNot : ℕ → ℕ → Option ℕ → Type 0
CauseNot q n = Refuse (n ≤ q) 21 (Full n)

-- one of two questions is not among n
abbrev pub OneMissing : ℕ → ℕ → ℕ → Type 0
OneMissing a b n = (n ≤ a) ⊎ (n ≤ b)

abbrev pub CauseOr : ℕ → ℕ → ℕ → Option ℕ → Type 0
CauseOr a b n = Refuse (OneMissing a b n) 21 (Full n)

-- two questions are read
abbrev pub CausePair : ℕ → ℕ → ℕ → Option ℕ → Type 0
CausePair a b n = Refuse (OneMissing a b n) 21 Accept

abbrev pub CauseMarks : ℕ → ℕ → Option ℕ → Type 0
CauseMarks q n = Refuse (n ≤ q) 21 Accept

-- what an until language tells: how many actions it knows, how many symbols it has, and its rules
pub record Told : Type 0 where
  pub known : ℕ
  pub symbols : ℕ
  pub rules : List Rule

abbrev pub told : ℕ → ℕ → List Rule → Told
told known symbols rules = record { known = known; symbols = symbols; rules = rules }

-- a language is for another number of actions, too large, or needs a longer work table; then come the later causes
abbrev pub Unfit : Model → Told → ℕ → (Option ℕ → Type 0) → Option ℕ → Type 0
Unfit m l work later =
    Refuse (l.known ≢ m.actions) 7
    (Refuse (BeyondLimits l.symbols l.rules) 8
    (Refuse (work < l.symbols * m.states * m.states) 9 later))

-- an until call with a work table of so many entries
abbrev pub CauseUntil : Model → Told → ℕ → ℕ → ℕ → ℕ → Option ℕ → Type 0
CauseUntil m l work guard goal n = Unfit m l work (CauseOr guard goal n)

-- a release call with a watcher that knows so many actions
abbrev pub CauseRelease : Model → ℕ → Table → ℕ → ℕ → ℕ → Option ℕ → Type 0
CauseRelease m known t freeing kept n =
    Refuse (known ≢ m.actions) 7
    (Refuse (32 < t.states) 8 (CauseOr freeing kept n))

-- there are such paths, and each has more steps than the limit
abbrev pub TooLong : (List Step → Type 0) → ℕ → Type 0
TooLong Good limit = ((p : List Step) × Good p) × ((p : List Step) → Good p → limit < length p)

-- at most as many steps as the list has places, and at most 4,096
abbrev pub limit : ℕ → ℕ
limit places = min places 4096

-- a path call from a state, with work table, waiting memory and step list of these lengths
abbrev pub CausePath : Model → Told → ℕ → ℕ → ℕ → ℕ → ℕ → ℕ → (List Step → Type 0) → ℕ → Option ℕ → Type 0
CausePath m l work waiting steps guard goal s Good n =
    Refuse (m.states ≤ s) 1
    (Unfit m l work
    (Refuse (waiting < steps) 10
    (Refuse (OneMissing guard goal n) 21
    (Refuse (TooLong Good (limit steps)) 24 Accept))))
