-- What the rules give is derived; and where they give nothing new, all that is derived is there.
use Rattle.std.proofs.Common.{Bool, Decides, ◌≡◌, ℕ, zero, suc, ◌+◌, ◌<◌, ◌≤◌, List, [], ◌∷◌, ◌++◌, length, get_or, drop, Some, sym, refl, ap, subst, arith}
use Rattle.std.specs.List.{slice_get}
use Rattle.std.proofs.lemmas.List.{drop_more, drop_all, length-drop}
use Rattle.std.proofs.lemmas.Option.{slice_get-get_or}
use Rattle.model.specs.Relations.{Among, Exactly, Triple}
use Rattle.model.specs.Sets.{Has}
use Rattle.model.specs.declared.number_set.NumberSet.{NumberSet}
use Rattle.model.proofs.Joins.{place_before}
use Rattle.language.specs.Words.{Word}
use Rattle.language.specs.Rules.{head_of}
use Rattle.language.specs.Derivations.{Yields, DerivesWithin, Derives}
use Rattle.language.specs.declared.rule.Rule.{Rule}
use Rattle.language.specs.declared.rule.Rule.TheVariants.{Empty, Letter, Lead, Same, Pair}
use Rattle.chart.specs.Charts.{Spells, Stretch, Gives, ByRules}
use Rattle.language.proofs.Heights.{by_empty, by_letter, by_lead, by_same, by_pair}
use Rattle.triples.specs.Triples.{Holds, row_of}

module _ (w : Word) where
  pub spells_inside : (i : ℕ) (u : Word) (j : ℕ) → Spells w i u j → i ≤ length w
  spells_inside i [] j s = s.1
  spells_inside i (a ∷ u) j s = omega (arith, place_before w i a s.0)

  pub spells_append : (i : ℕ) (u : Word) (k : ℕ) (v : Word) (j : ℕ) → Spells w i u k → Spells w k v j → Spells w i (u ++ v) j
  spells_append i [] k v j s t = subst (λ n. Spells w n v j) (sym s.0) t
  spells_append i (a ∷ u) k v j s t = (s.0, spells_append (i + 1) u k v j s.1 t)

  pub spells_split : (i : ℕ) (u v : Word) (j : ℕ) → Spells w i (u ++ v) j → (k : ℕ) × Spells w i u k × Spells w k v j
  spells_split i [] v j s = (i, (refl, spells_inside i v j s), s)
  spells_split i (a ∷ u) v j s = let (k, x, y) = spells_split (i + 1) u v j s.1 in (k, (s.0, x), y)

  -- the whole word, and nothing else, stands between its two ends
  drop_next : (i a : ℕ) (v : Word) → drop i w ≡ a ∷ v → (slice_get w i ≡ Some a) × (drop (i + 1) w ≡ v)
  drop_next i a v e =
      let inside : i < length w = omega (arith, ap length e, length-drop i w) in
      let m : drop i w ≡ get_or w i 0 ∷ drop (i + 1) w = drop_more w i 0 inside in
      let n : slice_get w i ≡ Some (get_or w i 0) = slice_get-get_or w i 0 inside in
      (cc, cc)

  spells_rest : (v : Word) (i : ℕ) → drop i w ≡ v → i + length v ≡ length w → Spells w i v (length w)
  spells_rest [] i e n = (omega arith, omega arith)
  spells_rest (a ∷ v) i e n = let (at, later) = drop_next i a v e in (at, spells_rest v (i + 1) later (omega arith))

  pub spells_whole : Spells w 0 w (length w)
  spells_whole = spells_rest w 0 refl (omega arith)

  pub spelled : (u : Word) (i : ℕ) → Spells w i u (length w) → u ≡ drop i w
  spelled [] i s = sym (drop_all i w (omega (arith, s.0)))
  spelled (a ∷ u) i s =
      let inside = place_before w i a s.0 in
      let m : drop i w ≡ get_or w i 0 ∷ drop (i + 1) w = drop_more w i 0 inside in
      let n : slice_get w i ≡ Some (get_or w i 0) = slice_get-get_or w i 0 inside in
      let at = s.0 in
      let later = spelled u (i + 1) s.1 in
      cc

  module _ (rules : List Rule) where
    pub whole_derived : Derives rules 0 w → Stretch w rules (0, 0, length w)
    whole_derived d = (w, spells_whole, d)

    pub derived_whole : Stretch w rules (0, 0, length w) → Derives rules 0 w
    derived_whole (u, s, d) = subst (Derives rules 0) (spelled u 0 s) d

    -- what a rule gives from derived stretches is derived
    module _ (facts : Triple → Type 0) (sound : (p : Triple) → facts p → Stretch w rules p) where
      given_derived : (r : Rule) → Among r rules → (i j : ℕ) → i ≤ length w → Gives w r facts i j → Stretch w rules (head_of r, i, j)
      given_derived (Empty H) there i j l g = ([], (sym g, l), by_empty rules H there)
      given_derived (Letter H a) there i j l g = (a ∷ [], (g.0, (sym g.1, omega (arith, place_before w i a g.0))), by_letter rules H a there)
      given_derived (Lead H a B) there i j l g = let (u, s, d) = sound (B, i + 1, j) g.1 in (a ∷ u, (g.0, s), by_lead rules H a B u there d)
      given_derived (Same H B) there i j l g = let (u, s, d) = sound (B, i, j) g in (u, s, by_same rules H B u there d)
      given_derived (Pair H B C) there i j l (k, g, h) =
          let (u, s, d) = sound (B, i, k) g in
          let (v, t, e) = sound (C, k, j) h in
          (u ++ v, spells_append i u k v j s t, by_pair rules H B C u v there d e)

      pub round_derived : (p : Triple) → ByRules w rules facts p → Stretch w rules p
      round_derived p (r, there, (is, l, g)) = subst (λ x. Stretch w rules (x, p.1, p.2)) (sym is) (given_derived r there p.1 p.2 l g)

    -- facts to which the rules add nothing have every derived stretch
    module _ (facts : Triple → Type 0) (shut : (p : Triple) → ByRules w rules facts p → facts p) where
      by_rule : (below : ℕ → Word → Type 0) → ((x : ℕ) (u : Word) → below x u → (i j : ℕ) → Spells w i u j → facts (x, i, j)) → (r : Rule) → Among r rules → (x : ℕ) (u : Word) → Yields r below x u → (i j : ℕ) → Spells w i u j → facts (x, i, j)
      by_rule below found (Empty H) there x u (is, word) i j s =
          let t = subst (λ v. Spells w i v j) word s in
          shut (x, i, j) (Empty H, there, (is, t.1, sym t.0))
      by_rule below found (Letter H a) there x u (is, word) i j s =
          let t = subst (λ v. Spells w i v j) word s in
          shut (x, i, j) (Letter H a, there, (is, spells_inside i u j s, (t.0, sym t.1.0)))
      by_rule below found (Lead H a B) there x u (is, v, word, d) i j s =
          let t = subst (λ v. Spells w i v j) word s in
          shut (x, i, j) (Lead H a B, there, (is, spells_inside i u j s, (t.0, found B v d (i + 1) j t.1)))
      by_rule below found (Same H B) there x u (is, d) i j s =
          shut (x, i, j) (Same H B, there, (is, spells_inside i u j s, found B u d i j s))
      by_rule below found (Pair H B C) there x u (is, y, z, word, left, right) i j s =
          let (k, a, b) = spells_split i y z j (subst (λ v. Spells w i v j) word s) in
          shut (x, i, j) (Pair H B C, there, (is, spells_inside i u j s, (k, found B y left i k a, found C z right k j b)))

      by_height : (h x : ℕ) (u : Word) → DerivesWithin rules h x u → (i j : ℕ) → Spells w i u j → facts (x, i, j)
      by_height zero x u d i j s = absurd d
      by_height (suc h) x u (r, there, y) i j s = by_rule (DerivesWithin rules h) (by_height h) r there x u y i j s

      pub shut_all : (p : Triple) → Stretch w rules p → facts p
      shut_all p (u, s, (h, d)) = by_height h p.0 u d p.1 p.2 s

-- whether a symbol derives the empty word stands in its first row
pub empty_decided : (rules : List Rule) (rows : List NumberSet) (x : ℕ) → Exactly (Holds rows) (Stretch [] rules) → (row : NumberSet) (b has : Bool) → b ≡ has → row ≡ row_of rows x 0 → Decides has (Has row 0) → Decides b (Derives rules x [])
empty_decided rules rows x facts row b has same is d = rw same (
  λ yes. let (u, spells, derived) = (facts (x, 0, 0)).0 (omega arith, subst (λ y. Has y 0) is (d.0 yes)) in subst (Derives rules x) (spelled [] u 0 spells) derived,
  λ derived. d.1 (subst (λ y. Has y 0) (sym is) ((facts (x, 0, 0)).1 ([], (refl, omega arith), derived)).1),
)
