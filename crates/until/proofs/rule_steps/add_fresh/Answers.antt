use Rattle.std.proofs.Common.{◌≡◌, sym, subst, ⊎_elim}
use mathlib.Core.Bool.{false≢true}
use Rattle.model.specs.Relations.{Joined}
use Rattle.model.proofs.Joins.{joined_same, joined_both, joined_from}
use Rattle.until.specs.Consequences.{GivesFresh, ByPair}
use Rattle.language.specs.Rules.{SymbolsBelow}
use Rattle.language.specs.declared.rule.Rule.{Rule}
use Rattle.logic.specs.Facts.{Ground}
use Rattle.until.specs.declared.parts.Parts.{Parts}
use Rattle.until.proofs.rule_steps.add_fresh.Goals as goal
use Rattle.until.proofs.rule_steps.add_fresh.Goals.{then-has-3, else-has-3}
use Rattle.triples.specs.declared.triple_set.TripleSet.{TripleSet}
use Rattle.triples.specs.Triples.{Holds}

-- what the rule adds, said of its form
as_rule : (g : Ground) (parts : Parts) (before after : TripleSet) {r form : Rule} → r ≡ form
    → Joined (Holds before.rows) (Holds after.rows) (GivesFresh g form (Holds parts.all.now.rows) (Holds parts.fresh.now.rows)) → Joined (Holds before.rows) (Holds after.rows) (GivesFresh g r (Holds parts.all.now.rows) (Holds parts.fresh.now.rows))
as_rule g parts before after is = subst (λ x. Joined (Holds before.rows) (Holds after.rows) (GivesFresh g x (Holds parts.all.now.rows) (Holds parts.fresh.now.rows))) (sym is)

-- the rest of a lead rule is not live
pub returns-else-has : goal.returns-else-has
returns-else-has c =
    as_rule c.args.guarded.now c.args.parts.now c.args.found.now c.args.found.now c.in-Lead.is
    (joined_same _ (λ f m. false≢true (c.if-has.ensures.1 (c.args.parts.now.all_live _ m.2.2.2))))

-- the body of a same rule is not live
pub returns-else-has-2 : goal.returns-else-has-2
returns-else-has-2 c =
    as_rule c.args.guarded.now c.args.parts.now c.args.found.now c.args.found.now c.in-Same.is
    (joined_same _ (λ f m. false≢true (c.if-has-2.ensures.1 (c.args.parts.now.all_live _ m.1))))

pub returns-then-has-4 : goal.returns-then-has-4
returns-then-has-4 c =
    let all = Holds c.args.parts.now.all.now.rows in
    let fresh = Holds c.args.parts.now.fresh.now.rows in
    let first : Joined (Holds c.args.found.now.rows) (Holds c.if-has-3.found.rows) (ByPair c.in-Pair.head c.in-Pair.left c.in-Pair.right fresh all) = elim c.if-has-3.branch [
      | then-has-3 w ↦ joined_from {D = ByPair c.in-Pair.head c.in-Pair.left c.in-Pair.right fresh all} (λ (t : TripleSet). Holds t.rows) (sym w.found-is) w.add_pair.ensures
      | else-has-3 w ↦ joined_from {D = ByPair c.in-Pair.head c.in-Pair.left c.in-Pair.right fresh all} (λ (t : TripleSet). Holds t.rows) (sym w.found-is) (joined_same (ByPair c.in-Pair.head c.in-Pair.left c.in-Pair.right fresh all) (λ f m. false≢true (w.if-has-3.ensures.1 (c.args.parts.now.all_live _ m.2))))
    ] in
    as_rule c.args.guarded.now c.args.parts.now c.args.found.now c.add_pair-then-has-4.new.found c.in-Pair.is
    (joined_both (ByPair c.in-Pair.head c.in-Pair.left c.in-Pair.right fresh all) (ByPair c.in-Pair.head c.in-Pair.left c.in-Pair.right all fresh) first c.add_pair-then-has-4.ensures)

pub returns-else-has-4 : goal.returns-else-has-4
returns-else-has-4 c =
    let all = Holds c.args.parts.now.all.now.rows in
    let fresh = Holds c.args.parts.now.fresh.now.rows in
    let first : Joined (Holds c.args.found.now.rows) (Holds c.if-has-3.found.rows) (ByPair c.in-Pair.head c.in-Pair.left c.in-Pair.right fresh all) = elim c.if-has-3.branch [
      | then-has-3 w ↦ joined_from {D = ByPair c.in-Pair.head c.in-Pair.left c.in-Pair.right fresh all} (λ (t : TripleSet). Holds t.rows) (sym w.found-is) w.add_pair.ensures
      | else-has-3 w ↦ joined_from {D = ByPair c.in-Pair.head c.in-Pair.left c.in-Pair.right fresh all} (λ (t : TripleSet). Holds t.rows) (sym w.found-is) (joined_same (ByPair c.in-Pair.head c.in-Pair.left c.in-Pair.right fresh all) (λ f m. false≢true (w.if-has-3.ensures.1 (c.args.parts.now.all_live _ m.2))))
    ] in
    as_rule c.args.guarded.now c.args.parts.now c.args.found.now c.if-has-3.found c.in-Pair.is
    (joined_both (ByPair c.in-Pair.head c.in-Pair.left c.in-Pair.right fresh all) (ByPair c.in-Pair.head c.in-Pair.left c.in-Pair.right all fresh) first (joined_same (ByPair c.in-Pair.head c.in-Pair.left c.in-Pair.right all fresh) (λ f m. false≢true (c.if-has-4.ensures.1 (c.args.parts.now.all_live _ m.3)))))

pub returns-in-Empty : goal.returns-in-Empty
returns-in-Empty c =
    let guarded = c.args.guarded.now in
    let parts = c.args.parts.now in
    let found = c.args.found.now in
    ⊎_elim (λ e. as_rule guarded parts found found e.1 (joined_same _ (λ f m. m))) (λ e. as_rule guarded parts found found e.2 (joined_same _ (λ f m. m))) c.in-Empty.is

pub returns-then-has : goal.returns-then-has
returns-then-has c = as_rule c.args.guarded.now c.args.parts.now c.args.found.now c.add_led.new.found c.in-Lead.is c.add_led.ensures

pub returns-then-has-2 : goal.returns-then-has-2
returns-then-has-2 c = as_rule c.args.guarded.now c.args.parts.now c.args.found.now c.add_same.new.found c.in-Same.is c.add_same.ensures

pub add_same-requires : goal.add_same-requires
add_same-requires c =
    let w = subst (SymbolsBelow 16) c.in-Same.is c.requires in
    let parts = c.args.parts.now in
    record { head = w.0; body = w.1; states = parts.few_states; bodies = parts.fresh_below }

pub add_pair-requires : goal.add_pair-requires
add_pair-requires c =
    let w = subst (SymbolsBelow 16) c.in-Pair.is c.requires in
    let parts = c.args.parts.now in
    record { head = w.0; left = w.1; right = w.2; states = parts.few_states; lefts = parts.fresh_below; rights = parts.all_below }

pub add_pair-requires-then-has-4 : goal.add_pair-requires-then-has-4
add_pair-requires-then-has-4 c =
    let w = subst (SymbolsBelow 16) c.in-Pair.is c.requires in
    let parts = c.args.parts.now in
    record { head = w.0; left = w.1; right = w.2; states = parts.few_states; lefts = parts.all_below; rights = parts.fresh_below }
