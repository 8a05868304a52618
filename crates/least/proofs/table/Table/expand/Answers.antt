use Rattle.std.proofs.Common.{◌≡◌, ℕ, Bool, false, ◌≢◌, ◌⊎◌, inl, inr, rules, sym, ap, ◌∙◌, subst}
use Rattle.language.specs.Rules.{SymbolsBelow}
use lib.Dec.{eqb}
use mathlib.Core.Bool.{false≢true}
use Rattle.least.specs.Bands.{seconds_of}
use Rattle.model.specs.Relations.{Triple}
use Rattle.least.specs.declared.table.Table.{Table}
use Rattle.language.specs.declared.rule.Rule.TheVariants.{Same, Pair}
use Rattle.least.specs.Entries.{triple}
use Rattle.least.specs.Lowering.{Always, ShutAt, ShutSecond, ShutTurn}
use Rattle.least.proofs.Runs.{run_none, run_like, run_both, same_scope}
use Rattle.least.proofs.Turns.{is_in, in_table, same_turn}
use Rattle.least.proofs.table.Table.expand.Goals as goal
use Rattle.least.proofs.table.Table.expand.Goals.{then-left-fact, else-left-fact, then-right-fact, else-right-fact}

pub lift-requires-clause-part : goal.lift-requires-clause-part
lift-requires-clause-part c = in_table c.args.self.now _ _ c.requires.fact c.cell-part.ensures

pub lift-requires-clause-cell : goal.lift-requires-clause-cell
lift-requires-clause-cell c =
    let wi = subst (SymbolsBelow c.args.self.now.scope.symbols) c.in-Same.is c.requires.within in
    in_table c.args.self.now _ _ (is_in c.args.self.now.scope _ _ _ wi.0 c.requires.fact.from c.requires.fact.to) c.cell-cell.ensures

pub returns-else-body-fact : goal.returns-else-body-fact
returns-else-body-fact c =
    let wi = subst (SymbolsBelow c.args.self.now.scope.symbols) c.in-Same.is c.requires.within in
    let i = c.requires.fact in
    subst (λ r. Always r (ShutTurn c.args.top (seconds_of c.args.band) r (triple c.args.fact)) c.args.self.now c.lift.new.self c.lift.result)
    (ap (λ B. Same c.in-Same.head B) (sym c.if-body-fact.false) ∙ sym c.in-Same.is)
    (λ rules r∈. run_like rules _ (λ at. (at, λ _. tt)) (same_turn rules _ _ _ _ _ _ _ c.ranges.top.fits r∈ i (is_in c.args.self.now.scope _ _ _ wi.0 i.from i.to) c.cell-part.ensures c.cell-cell.ensures c.lift.ensures))

same_symbol : (X Y : ℕ) → X ≢ Y → eqb X Y ≡ false
same_symbol X Y ne = search rules

-- a turn by a pair rule with the fact as its first part, if it is that
by_first : (top H B C : ℕ) (f : Triple) (a b : Table) (x : Bool) → ((B ≡ f.0) × (d : Table) × (y : Bool) × Always (Pair H f.0 C) (ShutAt top (Pair H f.0 C) f) a d y × (b ≡ d) × (x ≡ y)) ⊎ ((B ≢ f.0) × (b ≡ a) × (x ≡ eqb B f.0))
    → Always (Pair H B C) (ShutAt top (Pair H B C) f) a b x
by_first top H B C f a b x (inl (e, d, y, j, e₁, e₂)) = rw (e, e₁, e₂) j
by_first top H B C f a b x (inr (ne, e₁, e₂)) =
    rw (e₁, e₂, same_symbol B f.0 ne) (λ all r∈. run_none all a _ (λ p n n< (y, u, i, j, (q, kn), kn₂, z). absurd (ne (ap (λ (t : Triple). t.0) q))))

-- the same with the fact as its second part
by_second : (top H B C : ℕ) (f : Triple) (a b : Table) (x : Bool) → ((C ≡ f.0) × (d : Table) × (y : Bool) × Always (Pair H B f.0) (ShutSecond top (Pair H B f.0) f) a d y × (b ≡ d) × (x ≡ y)) ⊎ ((C ≢ f.0) × (b ≡ a) × (x ≡ eqb C f.0))
    → Always (Pair H B C) (ShutSecond top (Pair H B C) f) a b x
by_second top H B C f a b x (inl (e, d, y, j, e₁, e₂)) = rw (e, e₁, e₂) j
by_second top H B C f a b x (inr (ne, e₁, e₂)) = rw (e₁, e₂, same_symbol C f.0 ne) (λ all r∈. run_none all a _ (λ e. absurd (ne e)))

pub expand_right-second-requires : goal.expand_right-second-requires
expand_right-second-requires c =
    let first = by_first _ _ _ _ _ _ _ _ (elim c.if-left-fact.branch [ then-left-fact w ↦ inl (w.if-left-fact.true, _, _, w.expand_left-first.ensures, w.self-is, w.first-is) | else-left-fact w ↦ inr (w.if-left-fact.false, w.self-is, w.first-is) ]) in
    let within = subst (SymbolsBelow c.args.self.now.scope.symbols) c.in-Pair.is c.requires.within in
    rw (same_scope first) (record { fact = c.requires.fact; head = within.0; left = within.1 })

pub returns-then-not-takes_seconds : goal.returns-then-not-takes_seconds
returns-then-not-takes_seconds c =
    let first = by_first _ _ _ _ _ _ _ _ (elim c.if-left-fact.branch [ then-left-fact w ↦ inl (w.if-left-fact.true, _, _, w.expand_left-first.ensures, w.self-is, w.first-is) | else-left-fact w ↦ inr (w.if-left-fact.false, w.self-is, w.first-is) ]) in
    rw c.in-Pair.is (λ all r∈. run_like all _ (λ p. (p, λ e. absurd (false≢true (sym c.if-not-takes_seconds.true ∙ c.takes_seconds.ensures ∙ e)))) (first all r∈))

pub returns-after-right-fact : goal.returns-after-right-fact
returns-after-right-fact c =
    let first = by_first _ _ _ _ _ _ _ _ (elim c.if-left-fact.branch [ then-left-fact w ↦ inl (w.if-left-fact.true, _, _, w.expand_left-first.ensures, w.self-is, w.first-is) | else-left-fact w ↦ inr (w.if-left-fact.false, w.self-is, w.first-is) ]) in
    let second = by_second _ _ _ _ (triple c.args.fact) _ _ _ (elim c.if-right-fact.branch [ then-right-fact w ↦ inl (w.if-right-fact.true, _, _, w.expand_right-second.ensures, w.self-is, w.second-is) | else-right-fact w ↦ inr (w.if-right-fact.false, w.self-is, w.second-is) ]) in
    rw c.in-Pair.is (λ all r∈. run_like all _ (λ (p, q). (p, λ _. q)) (run_both all (first all r∈) (second all r∈)))
