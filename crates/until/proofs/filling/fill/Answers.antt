use Rattle.std.proofs.Common.{◌≡◌, ℕ, ◌+◌, ◌*◌, ◌<◌, get_or, sym, refl, ap, ◌∙◌, subst, inl, inr, arith}
use Rattle.language.proofs.Naming.{rules_more}
use Rattle.logic.specs.Facts.{FactWithin, LeastHeight}
use Rattle.until.proofs.Facts.{first_new, exact_below, lacking_below, height_joined, next_new, settled_all, entry_none, entry_more, entry_end}
use Rattle.logic.proofs.Layouts.{spot_below}
use Rattle.triples.specs.Triples.{Holds}
use Rattle.logic.specs.Layouts.{spot}
use Rattle.triples.proofs.TripleRows.{holds_dec}
use Rattle.triples.proofs.TripleSizes.{table_grows, table_same}
use Rattle.until.proofs.filling.fill.Goals as goal

-- places, by the numbers that the calls gave
cells : (s n symbols states : ℕ) → s ≡ symbols → n ≡ states → s * n * n ≡ symbols * states * states
cells s n symbols states es en = ap (λ x. x * n * n) es ∙ ap (λ x. symbols * x * x) en

pub loop-size-init : goal.loop-size-init
loop-size-init g c =
    let guarded = c.args.guarded.now in
    let rules = g.L.UntilLanguage.rules c.args.language.now in (
      sym c.empty-all.ensures.size,
      (λ f. (λ h. absurd (c.empty-all.ensures.none f h), λ w. absurd w.2)),
      first_new guarded rules (Holds c.first_facts-fresh.result.rows) c.first_facts-fresh.ensures,
      (λ k l. entry_none guarded rules (spot c.states.result k) (get_or c.clear.new.work k 0) (elim (c.clear.ensures k) [ inl y ↦ y.1 | inr n ↦ absurd (n.0 (rw c.entries.ensures l)) ])),
      (λ k l. refl),
      omega arith,
      omega arith,
    )

pub note-requires-clause-below : goal.note-requires-clause-below
note-requires-clause-below g c =
    let l = c.args.language.now in
    let limits = c.symbols.ensures.limits in
    let named = g.met.L.UntilLanguage.symbols_known l limits.few_symbols limits.few_rules in
    rw (c.symbols.ensures.count, c.states.ensures.count) (lacking_below c.args.guarded.now (g.L.UntilLanguage.rules l) _ (c.loop-size.round + 1) _ (FactWithin c.args.guarded.now (g.L.UntilLanguage.rules l) c.loop-size.round) named c.loop-size.invariant.2)

pub of-parts-requires-clause-all : goal.of-parts-requires-clause-all
of-parts-requires-clause-all g c =
    let l = c.args.language.now in
    let guarded = c.args.guarded.now in
    let rules = g.L.UntilLanguage.rules l in
    let limits = c.symbols.ensures.limits in
    let named = rules_more _ 16 rules limits.few_symbols (g.met.L.UntilLanguage.symbols_known l limits.few_symbols limits.few_rules) in
    let inv = c.loop-size.invariant in
    let next = height_joined guarded rules c.loop-size.round (Holds c.loop-size.all.rows) (Holds c.loop-size.fresh.rows) (Holds c.include.new.self.rows) (holds_dec _) inv.1 inv.2 c.include.ensures in
    rw c.states.ensures.count (exact_below guarded rules 16 (c.loop-size.round + 1) (Holds c.include.new.self.rows) named next)

pub of-parts-requires-clause-fresh : goal.of-parts-requires-clause-fresh
of-parts-requires-clause-fresh g c =
    let l = c.args.language.now in
    let guarded = c.args.guarded.now in
    let rules = g.L.UntilLanguage.rules l in
    let limits = c.symbols.ensures.limits in
    let named = rules_more _ 16 rules limits.few_symbols (g.met.L.UntilLanguage.symbols_known l limits.few_symbols limits.few_rules) in
    rw c.states.ensures.count (lacking_below guarded rules 16 (c.loop-size.round + 1) (Holds c.loop-size.fresh.rows) (FactWithin guarded rules c.loop-size.round) named c.loop-size.invariant.2)

pub loop-size-preserved : goal.loop-size-preserved
loop-size-preserved g c =
    let l = c.args.language.now in
    let G = c.args.guarded.now in
    let R = g.L.UntilLanguage.rules l in
    let h = c.loop-size.round in
    let n = c.states.result in
    let F = Holds c.loop-size.all.rows in
    let N = Holds c.loop-size.fresh.rows in
    let all = Holds c.include.new.self.rows in
    let inv = c.loop-size.invariant in
    let limits = c.symbols.ensures.limits in
    let named = g.met.L.UntilLanguage.symbols_known l limits.few_symbols limits.few_rules in
    let next = height_joined G R h F N all (holds_dec _) inv.1 inv.2 c.include.ensures in
    let up = table_grows _ _ c.include.new.self.long c.include.ensures.keeps in
    let found = rw (c.of-parts.ensures.all, c.of-parts.ensures.fresh) at c.further_facts.ensures in
    let some : 0 < n = omega (arith, c.states.ensures.count, G.model.some_state) in (
      c.count-grown.ensures.size,
      next,
      next_new G R h F N all (Holds c.further_facts.result.rows) (Holds c.without-fresh.result.rows) inv.1 c.include.ensures next found c.without-fresh.ensures,
      (λ k m. entry_more G R h N inv.2 (spot n k) (get_or c.loop-size.work k 0) (get_or c.note.new.work k 0) (c.note.ensures k) (inv.3 k m)),
      (λ k m. elim (c.note.ensures k) [
        | inl y ↦ let b = lacking_below G R (g.L.UntilLanguage.symbols l) (h + 1) N (FactWithin G R h) named inv.2 (spot n k) y.0 in
            let below = spot_below n c.symbols.result k some (omega (arith, b.0, c.symbols.ensures.count)) in absurd (omega arith)
        | inr o ↦ o.1 ∙ inv.4 k m
      ]),
      omega (arith, c.count-grown.ensures.size, inv.0, inv.5, c.if-grown-size.false),
      c.count-grown.ensures.most,
    )

pub returns-then-grown-size : goal.returns-then-grown-size
returns-then-grown-size g c =
    let G = c.args.guarded.now in
    let R = g.L.UntilLanguage.rules c.args.language.now in
    let h = c.loop-size.round in
    let F = Holds c.loop-size.all.rows in
    let N = Holds c.loop-size.fresh.rows in
    let all = Holds c.include.new.self.rows in
    let inv = c.loop-size.invariant in
    let next = height_joined G R h F N all (holds_dec _) inv.1 inv.2 c.include.ensures in
    let same = table_same _ _ c.include.new.self.long c.include.ensures.keeps (omega (arith, c.count-grown.ensures.size, c.if-grown-size.true, inv.0)) in
    let facts = settled_all G R h F all inv.1 next same c.include.ensures.keeps in
    let e = cells _ _ _ _ c.symbols.ensures.count c.states.ensures.count in
    record {
      facts = facts;
      derived = c.symbols.ensures.derived;
      heights = λ k l. subst (λ n. LeastHeight G R (spot n k) (get_or c.loop-size.work k 0)) c.states.ensures.count
          (entry_end G R h F all inv.1 same facts (spot c.states.result k) (get_or c.loop-size.work k 0) (inv.3 k (omega arith)));
      others = λ k l. inv.4 k (omega arith) ∙ elim (c.clear.ensures k) [ inl y ↦ let b = y.0 in absurd (omega (arith, c.entries.ensures)) | inr o ↦ o.1 ];
    }

pub loop-size-smaller : goal.loop-size-smaller
loop-size-smaller g c =
    let up = table_grows _ _ c.include.new.self.long c.include.ensures.keeps in
    omega (arith, c.count-grown.ensures.size, c.count-grown.ensures.most, c.loop-size.invariant.0, c.if-grown-size.false)
