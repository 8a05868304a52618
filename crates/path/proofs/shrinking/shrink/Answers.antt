use Rattle.std.proofs.Common.{◌≡◌, ℕ, ◌+◌, ◌<◌, List, sym, refl, subst, arith}
use Rattle.model.specs.Relations.{Among}
use Rattle.language.specs.Rules.{head_of, SymbolsBelow}
use Rattle.language.specs.declared.rule.Rule.{Rule}
use Rattle.least.specs.Entries.{Sound}
use Rattle.least.proofs.Turns.{is_in, ends_in}
use Rattle.path.specs.declared.split.Split.TheVariants.{Last, Onward, Both}
use Rattle.path.specs.Unfolding.{Sums, Splits}
use Rattle.path.proofs.Splitting.{letter_last, lead_last, lead_onward, pair_both}
use Rattle.path.proofs.shrinking.shrink.Goals as goal

pub returns-else-not-steps_to : goal.returns-else-not-steps_to
returns-else-not-steps_to c =
    let (e, e∈, s) = c.if-not-steps_to.ensures.0 refl in
    let Way = λ (r : Rule). (rules : List Rule) (n : ℕ) → Among r rules → Sound rules c.args.table.now → c.args.span.worth ≡ n + 1 → Splits rules c.args.table.now (record { symbol = head_of r; from = c.args.span.from; to = c.args.span.to }) n (Last c.in-Letter.action c.args.span.to) in
    subst Way (sym c.in-Letter.is)
    (λ rules n r∈ so z. letter_last rules c.args.table.now _ _ _ _ n e r∈ (omega arith) e∈ s)

pub returns-then-span-eq2 : goal.returns-then-span-eq2
returns-then-span-eq2 c =
    let wi = subst (SymbolsBelow c.args.table.now.scope.symbols) c.in-Lead.is c.requires.within in
    let (e, e∈, s, is) = c.in_ok-via-in-Lead.ensures in
    let via : c.in_ok-via-in-Lead.via < c.args.table.now.scope.states = omega (arith, (ends_in c.args.table.now.scope e e∈).1, s.2) in
    let Way = λ (r : Rule). (rules : List Rule) (n : ℕ) → Among r rules → Sound rules c.args.table.now → c.args.span.worth ≡ n + 1 → Splits rules c.args.table.now (record { symbol = head_of r; from = c.args.span.from; to = c.args.span.to }) n (Last c.in-Lead.action c.args.span.to) in
    subst Way (sym c.in-Lead.is)
    (λ rules n r∈ so z. lead_last rules c.args.table.now _ _ c.in-Lead.rest _ _ c.in_ok-via-in-Lead.via n e so r∈ (omega arith) e∈ s (is_in c.args.table.now.scope _ _ _ wi.1 via c.requires.to) (omega arith))

pub returns-else-span-eq2 : goal.returns-else-span-eq2
returns-else-span-eq2 c =
    let wi = subst (SymbolsBelow c.args.table.now.scope.symbols) c.in-Lead.is c.requires.within in
    let (e, e∈, s, is) = c.in_ok-via-in-Lead.ensures in
    let via : c.in_ok-via-in-Lead.via < c.args.table.now.scope.states = omega (arith, (ends_in c.args.table.now.scope e e∈).1, s.2) in
    let Way = λ (r : Rule). (rules : List Rule) (n : ℕ) → Among r rules → Sound rules c.args.table.now → c.args.span.worth ≡ n + 1 → Splits rules c.args.table.now (record { symbol = head_of r; from = c.args.span.from; to = c.args.span.to }) n (Onward c.in-Lead.action c.in_ok-via-in-Lead.via c.in-Lead.rest) in
    subst Way (sym c.in-Lead.is)
    (λ rules n r∈ so z. lead_onward rules c.args.table.now _ _ c.in-Lead.rest _ _ c.in_ok-via-in-Lead.via n e r∈ (omega arith) e∈ s (is_in c.args.table.now.scope _ _ _ wi.1 via c.requires.to) (omega arith))

pub returns-in_ok-through-in-Pair : goal.returns-in_ok-through-in-Pair
returns-in_ok-through-in-Pair c =
    let wi = subst (SymbolsBelow c.args.table.now.scope.symbols) c.in-Pair.is c.requires.within in
    let (u, s) = c.in_ok-through-in-Pair.ensures in
    let Way = λ (r : Rule). (rules : List Rule) (n : ℕ) → Among r rules → Sound rules c.args.table.now → c.args.span.worth ≡ n + 1 → Splits rules c.args.table.now (record { symbol = head_of r; from = c.args.span.from; to = c.args.span.to }) n (Both c.in-Pair.left c.in_ok-through-in-Pair.through c.in-Pair.right) in
    subst Way (sym c.in-Pair.is)
    (λ rules n r∈ so z. pair_both rules c.args.table.now _ _ _ _ _ _ n r∈ (is_in c.args.table.now.scope _ _ _ wi.1 c.requires.from u) (is_in c.args.table.now.scope _ _ _ wi.2 u c.requires.to) (subst (λ y. Sums c.args.table.now c.in-Pair.left c.in-Pair.right c.args.span.from c.args.span.to y c.in_ok-through-in-Pair.through) z s))
