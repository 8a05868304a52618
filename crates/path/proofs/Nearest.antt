-- The nearest state of the goal, and what it says of all good paths.
use Rattle.std.proofs.Common.{◌≡◌, ℕ, ◌-◌, ◌<◌, ◌≤◌, Bool, true, false, List, length, refl, ap, subst, arith}
use native.Mathlib.Decide.{dec_lt}
use Rattle.model.specs.declared.edge.Step.{Step}
use Rattle.model.specs.declared.number_set.NumberSet.{NumberSet}
use Rattle.model.specs.Sets.{Has}
use Rattle.language.specs.declared.rule.Rule.{Rule}
use Rattle.language.specs.Rules.{RulesWithin}
use Rattle.language.specs.Derivations.{Derives}
use Rattle.logic.specs.Paths.{end}
use Rattle.least.specs.declared.table.Table.{Table}
use Rattle.least.specs.Entries.{ground_of, entry_of, AtMost, Sound, Closed}
use Rattle.least.specs.Lowering.{Run, ShutStarts, ShutAll, weight}
use Rattle.logic.proofs.GuardedPaths.{guarded_end, good_guarded}
use Rattle.least.proofs.Least.{least}
use Rattle.path.specs.Witnesses.{GoodFor, Nearest, Far}

module _ (rules : List Rule) (w : Table) (in_rules : RulesWithin w.scope.symbols rules) (goal : NumberSet) (s top : ℕ) (inside : s < w.scope.states) (closed : Closed rules top w) where
  -- a good path that is shorter than the top has an entry
  goal_entry : (p : List Step) → GoodFor w.scope.ground.now.model w.scope.ground.now.guard goal rules s p → length p < top → (end s p < w.scope.states) × AtMost (length p) (entry_of w (0, s, end s p))
  goal_entry p good l =
      let g = good_guarded (ground_of w.scope) (Has goal) (Derives rules 0) s p (omega (arith, w.scope.its_states)) good in
      (omega (arith, w.scope.its_states, guarded_end (ground_of w.scope) s (end s p) p g), least w rules top in_rules closed good.spells.0 (0, s, end s p) (length p) l (p, g, good.spells.1, refl))

  pub far_long : Far w goal s top w.scope.states → (p : List Step) → GoodFor w.scope.ground.now.model w.scope.ground.now.guard goal rules s p → top ≤ length p
  far_long far p good = elim (dec_lt (length p) top) [
    | no n ↦ omega arith
    | yes l ↦
        (let (e, a) = goal_entry p good l in absurd (omega (arith, a.low, far (end s p) e good.ends a.some)))
  ]

  pub near_least : (t : ℕ) → Nearest w goal s top w.scope.states t → (p : List Step) → GoodFor w.scope.ground.now.model w.scope.ground.now.guard goal rules s p → entry_of w (0, s, t) - 1 ≤ length p
  near_least t near p good = elim (dec_lt (length p) top) [
    | no n ↦ omega (arith, near.low)
    | yes l ↦
        (let (e, a) = goal_entry p good l in omega (arith, a.low, near.least (end s p) e good.ends a.some))
  ]

-- a run never makes the table heavier
pub lighter : (rules : List Rule) (Shut : Table → Type 0) (a b : Table) (x : Bool) → Run rules Shut a b x → weight b.entries.now ≤ weight a.entries.now
lighter rules Shut a b true j = omega (arith, j.less refl)
lighter rules Shut a b false j = omega (arith, ap (λ (t : Table). weight t.entries.now) (j.still refl).0)

-- runs by the rules of a language that is known under another name
module _ {rules all : List Rule} (same : rules ≡ all) {a b : Table} {x : Bool} where
  pub sound_by : {Shut : Table → Type 0} → Run rules Shut a b x → Sound all a → Sound all b
  sound_by run = subst (λ r. Sound r a → Sound r b) same run.sound

  pub starts_by : {top : ℕ} → Run rules (ShutStarts rules top) a b x → Run all (ShutStarts all top) a b x
  starts_by {top} run = subst (λ r. Run r (ShutStarts r top) a b x) same run

  pub sweeps_by : {top low high : ℕ} → Run rules (ShutAll rules top low high) a b x → Run all (ShutAll all top low high) a b x
  sweeps_by {top} {low} {high} run = subst (λ r. Run r (ShutAll r top low high) a b x) same run
