-- In a closed table no path is shorter than its entry says.
use Rattle.std.proofs.Common.{ℕ, zero, suc, ◌+◌, ◌-◌, ◌<◌, ◌≤◌, List, refl, arith}
use Rattle.model.specs.Relations.{Among, Triple}
use Rattle.language.specs.declared.rule.Rule.{Rule}
use Rattle.language.specs.declared.rule.Rule.TheVariants.{Empty, Letter, Lead, Same, Pair}
use Rattle.language.specs.Rules.{SymbolsBelow, RulesWithin}
use Rattle.least.specs.declared.table.Table.{Table}
use Rattle.least.specs.Walks.{WalkWithin, GivesIn}
use Rattle.least.specs.Entries.{ground_of, entry_of, Known, AtMost, Closed}
use Rattle.logic.proofs.GuardedPaths.{guarded_start, guarded_end}
use Rattle.least.proofs.Walking.{walk_to}

module _ (t : Table) (rules : List Rule) (top : ℕ) (in_rules : RulesWithin t.scope.symbols rules) (closed : Closed rules top t) where
  at_most_up : (e i n : ℕ) → i ≤ n → AtMost i e → AtMost n e
  at_most_up e i n l a = record { some = a.some; low = omega (arith, a.low) }

  walk_known : (h : ℕ) (q : Triple) (j : ℕ) → q.0 < t.scope.symbols → WalkWithin (ground_of t.scope) rules h q j → AtMost j (entry_of t q) → (i : ℕ) × (i ≤ j) × Known t q i
  walk_known h q j l (path, g, d, len) a = (
    entry_of t q - 1,
    omega (arith, a.low),
    record { there = record { symbol = l; from = omega (arith, t.scope.its_states, guarded_start (ground_of t.scope) q.1 q.2 path g); to = omega (arith, t.scope.its_states, guarded_end (ground_of t.scope) q.1 q.2 path g) }; is = omega (arith, a.some) },
  )

  by_rule : (h : ℕ) → ((q : Triple) (j : ℕ) → j < top → WalkWithin (ground_of t.scope) rules h q j → AtMost j (entry_of t q))
      → (r : Rule) (p : Triple) (n : ℕ) → SymbolsBelow t.scope.symbols r → Among r rules → n < top → GivesIn (ground_of t.scope) r (WalkWithin (ground_of t.scope) rules h) (WalkWithin (ground_of t.scope) rules h) p n → AtMost n (entry_of t p)
  by_rule h ih (Empty H) p n wi r∈ l d = closed (Empty H) p n r∈ l d
  by_rule h ih (Letter H a) p n wi r∈ l d = closed (Letter H a) p n r∈ l d
  by_rule h ih (Lead H a B) p n wi r∈ l (x, e, ld, j, f, z) =
      let (i, li, kn) = walk_known h (B, e.to, p.2) j wi.1 f (ih _ j (omega arith) f) in
      at_most_up _ (i + 1) n (omega arith) (closed (Lead H a B) p (i + 1) r∈ (omega arith) (x, e, ld, i, kn, refl))
  by_rule h ih (Same H B) p n wi r∈ l (x, f) =
      let (i, li, kn) = walk_known h (B, p.1, p.2) n wi.1 f (ih _ n l f) in
      at_most_up _ i n li (closed (Same H B) p i r∈ (omega arith) (x, kn))
  by_rule h ih (Pair H B C) p n wi r∈ l (x, u, i, j, f₁, f₂, z) =
      let (i', l₁, k₁) = walk_known h (B, p.1, u) i wi.1 f₁ (ih _ i (omega arith) f₁) in
      let (j', l₂, k₂) = walk_known h (C, u, p.2) j wi.2 f₂ (ih _ j (omega arith) f₂) in
      at_most_up _ (i' + j') n (omega arith) (closed (Pair H B C) p (i' + j') r∈ (omega arith) (x, u, i', j', k₁, k₂, refl))

  pub least : (h : ℕ) (p : Triple) (n : ℕ) → n < top → WalkWithin (ground_of t.scope) rules h p n → AtMost n (entry_of t p)
  least zero p n l f = absurd f.2
  least (suc h) p n l f = by_rule h (least h) f.2.0 p n (in_rules f.2.0 f.2.1) f.2.1 l (walk_to (ground_of t.scope) rules h f.2.0 p n f.0 f.1 f.2.2 f.3)

  -- the table has the fact of every walk, with no more steps
  pub least_known : (h : ℕ) (q : Triple) (j : ℕ) → q.0 < t.scope.symbols → j < top → WalkWithin (ground_of t.scope) rules h q j → (i : ℕ) × (i ≤ j) × Known t q i
  least_known h q j l j< f = walk_known h q j l f (least h q j j< f)
