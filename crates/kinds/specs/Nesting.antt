-- The rules that brackets tell derive exactly the balanced words.
use Rattle.std.specs.Prelude.{◌≡◌, ℕ, zero, suc, ◌+◌, ◌-◌, ◌<◌, ◌≤◌, Bool, true, false, not, ◌&&◌, List, [], ◌∷◌, ◌++◌, length, get_or, replicate, ◌==◌, ◌≢◌, slice_index_or, slice_set, refl}
use Rattle.std.proofs.Common.{sym, ap, ◌∙◌, append_assoc, inl, inr, arith, length-set}
use Rattle.std.proofs.Math.Path.{subst}
use Rattle.std.specs.List.{slice_get}
use Rattle.std.specs.Option.{option_map}
use Rattle.std.proofs.lemmas.Option.{slice_get-map}
use Rattle.std.proofs.lemmas.List.{get_or-set_same, get_or-set_other, get_or-replicate, length-replicate, length-map}
use Rattle.std.proofs.lemmas.Bool.{and_from, and_left, and_right, and_parts, not-true, not_from_true, not_from_false, eq-eqb, ne_eqb, eqb-false, cases_eq}
use Rattle.model.specs.Relations.{Among}
use Rattle.language.specs.Words.{Word, Known}
use Rattle.language.specs.Derivations.{Yields, DerivesWithin, Derives}
use Rattle.language.specs.declared.rule.Rule.{Rule}
use Rattle.language.specs.declared.rule.Rule.TheVariants.{Empty, Lead, Pair}
use Rattle.kinds.specs.declared.brackets.Brackets.{Brackets}
use Rattle.kinds.specs.Passing.{marked_below}
use Rattle.kinds.specs.BracketWords.{other_action, others_of, told, BracketWords}
use Rattle.kinds.specs.Members.{among_map, among_mapped}
use Rattle.kinds.specs.Passed.{passing_few, passing_among, among_passing, passing_alike}
use Rattle.language.proofs.Heights.{by_empty, by_lead, by_pair, known_append}
use Rattle.kinds.specs.Balance.{Closes, closes_none, closes_up, closes_down, closes_other, closes_append, up_closes, down_closes, down_never, other_closes}

-- all marked but two
pub marks_others : (n u d : ℕ) → u < n → d < n → (a : ℕ) → a < n → slice_index_or (slice_set (slice_set (replicate n true) u false) d false) a false ≡ (not (a == u) && not (a == d))
marks_others n u d lu ld a la = elim (cases_eq a d) [
  | inl e ↦ subst (λ k. slice_index_or (slice_set (slice_set (replicate n true) u false) d false) k false ≡ false) (sym e) (get_or-set_same (slice_set (replicate n true) u false) d false false (simp (length-set, length-replicate) ld))
      ∙ sym (and_right (not (a == u)) (not (a == d)) (not_from_true (a == d) (eq-eqb a d e)))
  | inr nd ↦ get_or-set_other (slice_set (replicate n true) u false) d a false false nd ∙ (elim (cases_eq a u) [
    | inl e ↦ subst (λ k. slice_index_or (slice_set (replicate n true) u false) k false ≡ false) (sym e) (get_or-set_same (replicate n true) u false false (simp length-replicate lu))
        ∙ sym (and_left (not (a == u)) (not (a == d)) (not_from_true (a == u) (eq-eqb a u e)))
    | inr nu ↦ get_or-set_other (replicate n true) u a false false nu ∙ get_or-replicate n a true false la
        ∙ sym (and_from (not (a == u)) (not (a == d)) (not_from_false (a == u) (ne_eqb a u nu)) (not_from_false (a == d) (ne_eqb a d nd)))
  ])
]

abbrev over : ℕ → Rule
over a = Lead 0 a 0

module _ (b : Brackets) where
  pub others_marked : (marks : List Bool) → ((a : ℕ) → a < 16 → slice_index_or marks a false ≡ other_action b a) → marked_below marks b.actions ≡ others_of b
  unfolding marked_below others_of
  others_marked marks same = passing_alike (λ q. get_or marks q false) (other_action b) b.actions 0 (λ k l. same k (omega (arith, b.few_actions)))

  pub others_few : length (others_of b) ≤ b.actions
  unfolding others_of
  others_few = passing_few (other_action b) b.actions 0

  pub told_length : length (told b) ≡ 4 + length (others_of b)
  told_length = omega (arith, length-map (others_of b) over)

  pub told_later : (k : ℕ) → 4 ≤ k → slice_get (told b) k ≡ option_map over (slice_get (others_of b) (k - 4))
  told_later k l = let e : k ≡ suc (suc (suc (suc (k - 4)))) = omega arith in ap (slice_get (told b)) e ∙ slice_get-map over (others_of b) (k - 4)

  other_apart : (a : ℕ) → other_action b a ≡ true → (a ≢ b.up) × (a ≢ b.down)
  other_apart a o =
      let p = and_parts (not (a == b.up)) (not (a == b.down)) o in
      (eqb-false a b.up (not-true (a == b.up) p.0), eqb-false a b.down (not-true (a == b.down) p.1))

  pub other_told : (a : ℕ) → a < b.actions → (a ≢ b.up) → (a ≢ b.down) → Among (over a) (told b)
  unfolding others_of
  other_told a l nu nd =
      let o : other_action b a ≡ true = and_from (not (a == b.up)) (not (a == b.down)) (not_from_false (a == b.up) (ne_eqb a b.up nu)) (not_from_false (a == b.down) (ne_eqb a b.down nd)) in
      let m = among_map over a (others_of b) (passing_among (other_action b) b.actions 0 a (omega arith) (omega arith) o) in
      (suc (suc (suc (suc m.0))), m.1)

  -- what holds of each kind of rule holds of every rule
  pub told_each : (P : Rule → Type 0) → P (Empty 0) → P (Lead 0 b.up 1) → P (Pair 1 0 2) → P (Lead 2 b.down 0) → ((a : ℕ) → a < b.actions → (a ≢ b.up) → (a ≢ b.down) → P (Lead 0 a 0)) → (r : Rule) → Among r (told b) → P r
  unfolding others_of
  told_each P empty opens pairs closes others r (zero, e) = let s : Empty 0 ≡ r = cc in subst P s empty
  told_each P empty opens pairs closes others r (suc zero, e) = let s : Lead 0 b.up 1 ≡ r = cc in subst P s opens
  told_each P empty opens pairs closes others r (suc (suc zero), e) = let s : Pair 1 0 2 ≡ r = cc in subst P s pairs
  told_each P empty opens pairs closes others r (suc (suc (suc zero)), e) = let s : Lead 2 b.down 0 ≡ r = cc in subst P s closes
  told_each P empty opens pairs closes others r (suc (suc (suc (suc k))), e) =
      let (a, there, is) = among_mapped over r (others_of b) (k, e) in
      let (l, o) = among_passing (other_action b) b.actions 0 a there in
      let n = other_apart a o in
      subst P (sym is) (others a (omega (arith, l)) n.0 n.1)

  -- symbol 0 closes as much as it opens, the others one more
  abbrev depth : ℕ → ℕ
  depth zero = 0
  depth (suc x) = 1

  sound : (h x : ℕ) (w : Word) → DerivesWithin (told b) h x w → Known b.actions w × Closes b.up b.down (depth x) w
  sound zero x w d = absurd d
  sound (suc h) x w (r, there, y) = told_each (λ (r : Rule). Yields r (DerivesWithin (told b) h) x w → Known b.actions w × Closes b.up b.down (depth x) w)
      (λ (is, word). back is word (tt, closes_none b.up b.down b.apart))
      (λ (is, v, word, below). let g = sound h 1 v below in back is word ((b.up_known, g.0), closes_up b.up b.down b.apart 0 v g.1))
      (λ (is, u, v, word, left, right). let g = sound h 0 u left in let k = sound h 2 v right in back is word (known_append b.actions u v g.0 k.0, closes_append b.up b.down b.apart 0 1 u v g.1 k.1))
      (λ (is, v, word, below). let g = sound h 0 v below in back is word ((b.down_known, g.0), closes_down b.up b.down b.apart 0 v g.1))
      (λ a l nu nd (is, v, word, below). let g = sound h 0 v below in back is word ((l, g.0), closes_other b.up b.down b.apart 0 a v nu nd g.1))
      r there y
    where
      back : {z : ℕ} {u : Word} → x ≡ z → w ≡ u → Known b.actions u × Closes b.up b.down (depth z) u → Known b.actions w × Closes b.up b.down (depth x) w
      back {z} is word g = subst (λ s. Known b.actions w × Closes b.up b.down (depth s) w) (sym is) (subst (λ v. Known b.actions v × Closes b.up b.down (depth z) v) (sym word) g)

  pub sound_all : (w : Word) → Derives (told b) 0 w → BracketWords b w
  sound_all w (h, d) =
      let g = sound h 0 w d in
      record { known_actions = g.0; balanced = record { as_many = omega (arith, g.1.ends); never_more = λ n. omega (arith, g.1.stays n) } }

  -- d times a derived word and a down, and then a derived word
  abbrev Tower : ℕ → Word → Type 0
  Tower zero w = Derives (told b) 0 w
  Tower (suc d) w = (u : Word) × (v : Word) × (w ≡ u ++ b.down ∷ v) × Derives (told b) 0 u × Tower d v

  wrapped : (u v : Word) → Derives (told b) 0 u → Derives (told b) 0 v → Derives (told b) 0 (b.up ∷ (u ++ b.down ∷ v))
  wrapped u v d e = by_lead (told b) 0 b.up 1 (u ++ b.down ∷ v) (1, refl) (by_pair (told b) 1 0 2 u (b.down ∷ v) (2, refl) d (by_lead (told b) 2 b.down 0 v (3, refl) e))

  tower_up : (d : ℕ) (w : Word) → Tower (suc d) w → Tower d (b.up ∷ w)
  tower_up zero w (u, v, e, du, dv) = subst (λ x. Derives (told b) 0 (b.up ∷ x)) (sym e) (wrapped u v du dv)
  tower_up (suc d) w (u, v, e, du, (x, y, f, dx, t)) =
      (b.up ∷ (u ++ b.down ∷ x), y, ap (λ z. b.up ∷ z) (e ∙ ap (λ z. u ++ b.down ∷ z) f ∙ sym (append_assoc u (b.down ∷ x) (b.down ∷ y))), wrapped u x du dx, t)

  tower_down : (d : ℕ) (w : Word) → Closes b.up b.down d (b.down ∷ w) → ((e : ℕ) → Closes b.up b.down e w → Tower e w) → Tower d (b.down ∷ w)
  tower_down zero w c later = absurd (down_never b.up b.down b.apart w c)
  tower_down (suc d) w c later = ([], w, refl, by_empty (told b) 0 (0, refl), later d (down_closes b.up b.down b.apart d w c))

  tower_other : (d a : ℕ) (w : Word) → Among (over a) (told b) → Tower d w → Tower d (a ∷ w)
  tower_other zero a w there t = by_lead (told b) 0 a 0 w there t
  tower_other (suc d) a w there (u, v, e, du, t) = (a ∷ u, v, ap (λ x. a ∷ x) e, by_lead (told b) 0 a 0 u there du, t)

  tower : (w : Word) (d : ℕ) → Known b.actions w → Closes b.up b.down d w → Tower d w
  tower [] zero k c = by_empty (told b) 0 (0, refl)
  tower [] (suc d) k c = absurd (omega (arith, c.ends))
  tower (a ∷ w) d k c = elim (cases_eq a b.up) [
    | inl e ↦ subst (λ x. Tower d (x ∷ w)) (sym e) (tower_up d w (tower w (suc d) k.1 (up_closes b.up b.down b.apart d w (subst (λ x. Closes b.up b.down d (x ∷ w)) e c))))
    | inr nu ↦ elim (cases_eq a b.down) [
      | inl e ↦ subst (λ x. Tower d (x ∷ w)) (sym e) (tower_down d w (subst (λ x. Closes b.up b.down d (x ∷ w)) e c) (λ n. tower w n k.1))
      | inr nd ↦ tower_other d a w (other_told a k.0 nu nd) (tower w d k.1 (other_closes b.up b.down b.apart d a w nu nd c))
    ]
  ]

  pub complete_all : (w : Word) → BracketWords b w → Derives (told b) 0 w
  complete_all w m = tower w 0 m.known_actions (record { ends = omega (arith, m.balanced.as_many); stays = λ n. omega (arith, m.balanced.never_more n) })
