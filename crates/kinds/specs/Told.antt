-- The rules that an automaton tells, and its runs.
use Rattle.std.specs.Prelude.{◌≡◌, ℕ, zero, suc, ◌+◌, ◌-◌, ◌<◌, ◌≤◌, true, ◌⊎◌, [], ◌∷◌, map, length, Some, option_map, refl}
use Rattle.std.proofs.Common.{sym, ap, subst, ◌∙◌, inl, inr, ⊎_elim, arith}
use Rattle.std.specs.List.{slice_get}
use Rattle.std.proofs.lemmas.List.{length-append, length-map}
use Rattle.std.proofs.lemmas.Option.{slice_get_within, slice_get-map}
use Rattle.model.specs.Relations.{Among}
use Rattle.model.specs.declared.edge.Edge.{Edge}
use Rattle.language.specs.Words.{Word}
use Rattle.language.specs.Derivations.{Yields, DerivesWithin}
use Rattle.language.specs.declared.rule.Rule.{Rule}
use Rattle.language.specs.declared.rule.Rule.TheVariants.{Empty, Lead}
use Rattle.kinds.specs.declared.automaton.Automaton.{Automaton}
use Rattle.kinds.specs.Automata.{edges_of, final_at, finals_of, told, Runs}
use Rattle.language.proofs.Members.{among_left, among_right, among_cases}
use Rattle.kinds.specs.Members.{among_map, among_mapped, nth_left, nth_right}
use Rattle.kinds.specs.Passing.{marked_below}
use Rattle.kinds.specs.Passed.{passing_few, passing_among, among_passing}

abbrev leads : Edge → Rule
leads e = Lead e.from e.action e.to

abbrev empties : ℕ → Rule
empties q = Empty q

rules_long : (m : Automaton) → length (map leads (edges_of m)) ≡ length (edges_of m)
rules_long m = length-map (edges_of m) leads

pub finals_few : (m : Automaton) → length (finals_of m) ≤ m.states
unfolding marked_below
finals_few m = passing_few (final_at m) m.states 0

pub told_length : (m : Automaton) → length (told m) ≡ length (edges_of m) + length (finals_of m)
unfolding told
told_length m =
    let a = length-append (map leads (edges_of m)) (map empties (finals_of m)) in
    let b = length-map (finals_of m) empties in
    omega (arith, a, b, rules_long m)

-- the rules by their places
pub told_edge : (m : Automaton) (k : ℕ) (e : Edge) → slice_get (edges_of m) k ≡ Some e → slice_get (told m) k ≡ Some (leads e)
unfolding told
told_edge m k e is =
    let l : k < length (map leads (edges_of m)) = omega (arith, rules_long m, slice_get_within (edges_of m) k e is) in
    nth_left (map leads (edges_of m)) (map empties (finals_of m)) k l ∙ slice_get-map leads (edges_of m) k ∙ ap (option_map leads) is

pub told_rest : (m : Automaton) (k : ℕ) → length (edges_of m) ≤ k → slice_get (told m) k ≡ option_map empties (slice_get (finals_of m) (k - length (edges_of m)))
unfolding told
told_rest m k l = nth_right (map leads (edges_of m)) (map empties (finals_of m)) k (length (edges_of m)) (sym (rules_long m)) l ∙ slice_get-map empties (finals_of m) (k - length (edges_of m))

-- the rules by what they are
pub edge_told : (m : Automaton) (e : Edge) → Among e (edges_of m) → Among (leads e) (told m)
unfolding told
edge_told m e there = among_left (leads e) (map leads (edges_of m)) (map empties (finals_of m)) (among_map leads e (edges_of m) there)

pub final_told : (m : Automaton) (q : ℕ) → q < m.states → final_at m q ≡ true → Among (Empty q) (told m)
unfolding told marked_below
final_told m q l final = among_right (Empty q) (map leads (edges_of m)) (map empties (finals_of m)) (among_map empties q (finals_of m) (passing_among (final_at m) m.states 0 q (omega arith) (omega arith) final))

pub told_cases : (m : Automaton) (r : Rule) → Among r (told m) → ((e : Edge) × Among e (edges_of m) × (r ≡ leads e)) ⊎ ((q : ℕ) × (q < m.states) × (final_at m q ≡ true) × (r ≡ Empty q))
unfolding told marked_below
told_cases m r there = ⊎_elim
    (λ a. inl (among_mapped leads r (edges_of m) a))
    (λ a. let (q, is, same) = among_mapped empties r (finals_of m) a in
    let f = among_passing (final_at m) m.states 0 q is in
    inr (q, omega (arith, f.0), f.1, same))
    (among_cases r (map leads (edges_of m)) (map empties (finals_of m)) there)

-- a run to a final state is a derivation
pub derives_run : (m : Automaton) (w : Word) (p q : ℕ) → p < m.states → Runs m p w q → final_at m q ≡ true → DerivesWithin (told m) (suc (length w)) p w
derives_run m [] p q l runs final = (Empty p, final_told m p l (ap (final_at m) runs ∙ final), (refl, refl))
derives_run m (a ∷ w) p q l (r, there, runs) final =
    let e : Edge = record { from = p; action = a; to = r } in
    (Lead p a r, edge_told m e there, (refl, w, refl, derives_run m w r q (m.inside e there).2 runs final))

-- and a derivation is a run
pub run_from : (m : Automaton) (h p : ℕ) (w : Word) → DerivesWithin (told m) h p w → (q : ℕ) × Runs m p w q × (final_at m q ≡ true)
run_from m zero p w d = absurd d
run_from m (suc h) p w (r, there, y) = elim (told_cases m r there) [
  | inl (e, edge, is) ↦
      let (from, v, word, later) = subst (λ (x : Rule). Yields x (DerivesWithin (told m) h) p w) is y in
      let (q, runs, final) = run_from m h e.to v later in
      (q, subst (λ u. Runs m p u q) (sym word) (subst (λ s. Runs m s (e.action ∷ v) q) (sym from) (e.to, edge, runs)), final)
  | inr (q, l, final, is) ↦
      let (from, word) = subst (λ (x : Rule). Yields x (DerivesWithin (told m) h) p w) is y in
      (q, subst (λ u. Runs m p u q) (sym word) from, final)
]
