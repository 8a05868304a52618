-- The path behind a yes: none, a shortest one, or only longer ones than fit.
use Rattle.std.specs.Prelude.{◌≡◌, ℕ, ◌<◌, ◌≤◌, List, length, take, drop, Some, None, Option, Ok, Err, Result}
use Rattle.model.specs.declared.edge.Step.{Step}
use Rattle.model.specs.declared.model.Model.{Model}
use Rattle.model.specs.declared.number_set.NumberSet.{NumberSet}
use Rattle.model.specs.declared.refusal.Refusal.{Refusal}
use Rattle.model.specs.declared.refusal.Refusal.TheVariants.{PathTooLong}
use Rattle.model.specs.Sets.{Has}
use Rattle.language.specs.declared.rule.Rule.{Rule}
use Rattle.language.specs.Derivations.{Derives}
use Rattle.logic.specs.Paths.{Good, SomeGood}
use Rattle.least.specs.declared.table.Table.{Table}
use Rattle.least.specs.Entries.{entry_of}

-- the path from s is good for the guard, the goal and the words that symbol 0 derives
abbrev pub GoodFor : Model → NumberSet → NumberSet → List Rule → ℕ → List Step → Type 0
GoodFor m guard goal rules s p = Good m (Has guard) (Has goal) (Derives rules 0) s p

abbrev pub SomeGoodFor : Model → NumberSet → NumberSet → List Rule → ℕ → Type 0
SomeGoodFor m guard goal rules s = SomeGood m (Has guard) (Has goal) (Derives rules 0) s

-- the answer is right, and the step list is as it should be: none where no path is good; n steps overwrite the first n, and
-- nothing else is changed; refused, and only so, where each good path is longer than the limit
abbrev pub Shows : Model → NumberSet → NumberSet → List Rule → ℕ → ℕ → List Step → List Step → Result (Option ℕ) Refusal → Type 0
Shows m guard goal rules s limit before after (Ok None) = (SomeGoodFor m guard goal rules s → ⊥) × (after ≡ before)
Shows m guard goal rules s limit before after (Ok (Some n)) = (n ≤ limit) × GoodFor m guard goal rules s (take n after) × ((p : List Step) → GoodFor m guard goal rules s p → n ≤ length p) × (drop n after ≡ drop n before) × (length after ≡ length before)
Shows m guard goal rules s limit before after (Err refusal) = (refusal ≡ PathTooLong) × SomeGoodFor m guard goal rules s × ((p : List Step) → GoodFor m guard goal rules s p → limit < length p) × (after ≡ before)

-- t is of the goal, and has an entry of symbol 0 from s of at most top
abbrev pub Near : Table → NumberSet → ℕ → ℕ → ℕ → Type 0
Near w goal s top t = Has goal t × (0 < entry_of w (0, s, t)) × (entry_of w (0, s, t) ≤ top)

-- among the first n states, t is of the goal and has the least entry of symbol 0 from s, which is at most top
pub record Nearest (w : Table) (goal : NumberSet) (s top n t : ℕ) : Type 0 where
  pub there : t < w.scope.states
  pub ends : Has goal t
  pub some : 0 < entry_of w (0, s, t)
  pub low : entry_of w (0, s, t) ≤ top
  pub least : (u : ℕ) → u < n → Has goal u → 0 < entry_of w (0, s, u) → entry_of w (0, s, t) ≤ entry_of w (0, s, u)

-- among the first n states, none of the goal has an entry of at most top
abbrev pub Far : Table → NumberSet → ℕ → ℕ → ℕ → Type 0
Far w goal s top n = (u : ℕ) → u < n → Has goal u → 0 < entry_of w (0, s, u) → top < entry_of w (0, s, u)

abbrev pub Best : Table → NumberSet → ℕ → ℕ → ℕ → Option ℕ → Type 0
Best w goal s top n None = Far w goal s top n
Best w goal s top n (Some t) = Nearest w goal s top n t
