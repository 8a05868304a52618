-- Tables of step counts: an entry for each fact, 0 for none, and otherwise one more than the steps of a path behind it.
use Rattle.std.specs.Prelude.{◌≡◌, ℕ, ◌+◌, ◌<◌, ◌≤◌, List, slice_index}
use Rattle.model.specs.Relations.{Among, Triple}
use Rattle.language.specs.declared.rule.Rule.{Rule}
use Rattle.logic.specs.Facts.{Ground}
use Rattle.logic.specs.Layouts.{place}
use Rattle.least.specs.declared.fact.Fact.{Fact}
use Rattle.least.specs.declared.scope.Scope.{Scope}
use Rattle.least.specs.declared.table.Table.{Table}
use Rattle.least.specs.Walks.{Walk, GivesIn}

-- the model with its guard
abbrev pub ground_of : Scope → Ground
ground_of c = c.ground.now

abbrev pub triple : Fact → Triple
triple f = (f.symbol, f.from, f.to)

-- the entry of a fact
abbrev pub entry_of : Table → Triple → ℕ
entry_of t p = slice_index t.entries.now (place t.scope.states p)

-- the fact's symbol and states are there
pub record In (c : Scope) (p : Triple) : Type 0 where
  pub symbol : p.0 < c.symbols
  pub from : p.1 < c.states
  pub to : p.2 < c.states

-- the table has the fact, with n steps
pub record Known (t : Table) (p : Triple) (n : ℕ) : Type 0 where
  pub there : In t.scope p
  pub is : entry_of t p ≡ n + 1

-- an entry of at most n steps
pub record AtMost (n entry : ℕ) : Type 0 where
  pub some : 0 < entry
  pub low : entry ≤ n + 1

-- each entry is one more than the steps of some path behind its fact
abbrev pub Sound : List Rule → Table → Type 0
Sound rules t = (p : Triple) (n : ℕ) → Known t p n → Walk (ground_of t.scope) rules p n

-- no rule makes a fact with fewer steps than its entry says, as far as entries up to the top go
abbrev pub Closed : List Rule → ℕ → Table → Type 0
Closed rules top t = (r : Rule) (p : Triple) (n : ℕ) → Among r rules → n < top → GivesIn (ground_of t.scope) r (Known t) (Known t) p n → AtMost n (entry_of t p)
