-- Facts of symbol 0 into the goal are good paths.
use Rattle.std.proofs.Common.{◌≡◌, ℕ, ◌<◌, List, sym, subst}
use Rattle.model.specs.declared.model.Model.{Model}
use Rattle.model.specs.declared.number_set.NumberSet.{NumberSet}
use Rattle.model.specs.Relations.{Exactly, Triple}
use Rattle.model.specs.Sets.{Has}
use Rattle.language.specs.declared.rule.Rule.{Rule}
use Rattle.language.specs.Derivations.{Derives}
use Rattle.language.specs.Words.{Word}
use Rattle.logic.specs.Paths.{end, SomeGood}
use Rattle.logic.specs.Facts.{ground, Fact}
use Rattle.logic.proofs.GuardedPaths.{guarded_good, good_guarded, good_words}

module _ (m : Model) (guard goal : NumberSet) (rules : List Rule) where
  pub reach_good : (s t : ℕ) → Fact (ground m guard) rules (0, s, t) → Has goal t → SomeGood m (Has guard) (Has goal) (Derives rules 0) s
  reach_good s t (p, w, d) h = (p, guarded_good (ground m guard) (Has goal) (Derives rules 0) s t p w h d)

  pub good_reach : (s : ℕ) → s < m.states → SomeGood m (Has guard) (Has goal) (Derives rules 0) s → (t : ℕ) × Fact (ground m guard) rules (0, s, t) × Has goal t
  good_reach s l (p, good) = (end s p, (p, good_guarded (ground m guard) (Has goal) (Derives rules 0) s p l good, good.spells), good.ends)

  -- the states with a fact into the goal are those where a good path starts
  pub reach_exact : (F : Triple → Type 0) (r : NumberSet) (n : ℕ) → n ≡ m.states → Exactly F (Fact (ground m guard) rules) → Exactly (Has r) (λ s. (s < n) × (t : ℕ) × F (0, s, t) × Has goal t)
      → Exactly (Has r) (λ s. (s < m.states) × SomeGood m (Has guard) (Has goal) (Derives rules 0) s)
  reach_exact F r n same is found s = (
    λ h. let d = (found s).0 h in (subst (λ k. s < k) same d.0, reach_good s d.1 ((is (0, s, d.1)).0 d.2) d.3),
    λ d. let y = good_reach s d.0 d.1 in (found s).1 (subst (λ k. s < k) (sym same) d.0, y.0, (is (0, s, y.0)).1 y.1, y.2),
  )

  -- and so for another name of the set of words
  pub words_exact : (W : Word → Type 0) (r : NumberSet) → ((w : Word) → W w → Derives rules 0 w) → ((w : Word) → Derives rules 0 w → W w)
      → Exactly (Has r) (λ s. (s < m.states) × SomeGood m (Has guard) (Has goal) (Derives rules 0) s) → Exactly (Has r) (λ s. (s < m.states) × SomeGood m (Has guard) (Has goal) W s)
  words_exact W r to from is s = (
    λ h. let d = (is s).0 h in (d.0, good_words m (Has guard) (Has goal) (Derives rules 0) W from s d.1),
    λ d. (is s).1 (d.0, good_words m (Has guard) (Has goal) W (Derives rules 0) to s d.1),
  )
