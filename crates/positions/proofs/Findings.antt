-- Pairs that are found and laid on the pile.
use Rattle.std.proofs.Common.{◌≡◌, ℕ, suc, ◌*◌, ◌^◌, ◌<◌, ◌≤◌, ◌⊎◌, List, [], ◌∷◌, ◌++◌, length, get_or, set, Ok, Err, Result, sym, refl, ap, ◌∙◌, subst, inl, inr, ⊎_elim, mul_comm, arith, length-append, MatchResult, MatchOption, IsNone, IfSome, Some, None, Option}
use native.Mathlib.Decide.{dec_lt, ℕ_discrete}
use lib.Bits.{bit_or}
use Rattle.model.specs.declared.refusal.Refusal.{Refusal}
use Rattle.model.specs.Refusals.{Refuse, Accept, refusal}
use Rattle.model.specs.declared.number_set.NumberSet.{NumberSet}
use Rattle.model.specs.declared.model.Model.{Model}
use Rattle.model.specs.Relations.{Joined}
use Rattle.model.specs.Sets.{Has, nothing}
use Rattle.triples.specs.Triples.{size}
use Rattle.model.proofs.Bits.{one_exact, or_joined}
use Rattle.model.proofs.Joins.{joined_like, joined_both}
use Rattle.language.specs.Tables.{Table}
use Rattle.pile.specs.declared.base.Pile.{Pile}
use Rattle.pile.specs.Items.{items, room}
use Rattle.walks.specs.Releases.{Forced, Bad, DoomedWithin}
use Rattle.walks.proofs.Breaks.{doomed_more}
use Rattle.positions.specs.declared.position.Position.{Position}
use Rattle.positions.specs.Pairs.{pair, Holds}
use Rattle.positions.specs.Searches.{On, Sound, Roomy, Laid}
use Rattle.positions.proofs.Sizes.{table_grows, table_same, holds_dec, size_few}
use Rattle.positions.proofs.Marks.{pair_is, pair_added}

-- a push that has room is accepted
pub push_sure : (P Q : Type 0) {a b : ℕ} (r : Result (Unit {0}) Refusal) → Refuse (a ≤ b) 23 Accept (refusal r) → b < a → MatchResult r (λ _. P) (λ _. Q) → P
push_sure P Q (Ok u) cause l c = c
push_sure P Q (Err e) (inl (full, is)) l c = absurd (omega arith)
push_sure P Q (Err e) (inr (free, is)) l c = let z : ◌≡◌ {A = ℕ} 0 1 = cc in absurd (omega arith)

-- one more on the pile
pub on_more : (xs : List Position) (x : Position) → Joined (On xs) (On (xs ++ x ∷ [])) (λ p. p ≡ pair x)
on_more [] x = record { keeps = λ p o. absurd o; puts = λ p e. inl e; only = λ p o. ⊎_elim inr absurd o }
on_more (y ∷ xs) x =
    let j = on_more xs x in
    record { keeps = λ p o. ⊎_elim inl (λ r. inr (j.keeps p r)) o; puts = λ p e. inr (j.puts p e); only = λ p o. ⊎_elim (λ e. inl (inl e)) (λ r. ⊎_elim (λ k. inl (inr k)) inr (j.only p r)) o }

-- a new pair makes the count larger
pub size_new : (rows more : List NumberSet) (x : ℕ × ℕ) → x.1 < 32 → (Holds rows x → ⊥) → Joined (Holds rows) (Holds more) (λ p. p ≡ x) → size rows 32 < size more 32
size_new rows more x l new j = go (dec_lt (size rows 32) (size more 32))
  where
    go : Dec (size rows 32 < size more 32) → size rows 32 < size more 32
    go (yes l) = l
    go (no n) = absurd (new (table_same rows more j.keeps (omega arith) x l (j.puts x refl)))

pub laid_one : {rows more : List NumberSet} {pile higher : Pile Position} (x : Position) → x.watch < 32 → (Holds rows (pair x) → ⊥) → Joined (Holds rows) (Holds more) (λ p. p ≡ pair x)
    → items higher ≡ items pile ++ x ∷ [] → room higher ≡ room pile → Laid rows pile more higher (λ p. p ≡ pair x)
laid_one {rows} {more} {pile} {higher} x l new j e r = record {
  found = j;
  laid = subst (λ z. Joined (On (items pile)) (On z) (λ p. p ≡ pair x)) (sym e) (on_more (items pile) x);
  fits = omega (arith, ap length e, length-append (items pile) (x ∷ []), size_new rows more (pair x) l new j);
  room = r;
}

pub laid_like : {rows more : List NumberSet} {pile higher : Pile Position} {D E : ℕ × ℕ → Type 0} → ((p : ℕ × ℕ) → D p → E p) → ((p : ℕ × ℕ) → E p → D p) → Laid rows pile more higher D → Laid rows pile more higher E
laid_like to from l = record { found = joined_like _ _ to from l.found; laid = joined_like _ _ to from l.laid; fits = l.fits; room = l.room }

pub laid_both : {a b c : List NumberSet} {x y z : Pile Position} {D E : ℕ × ℕ → Type 0} → Laid a x b y D → Laid b y c z E → Laid a x c z (λ p. D p ⊎ E p)
laid_both l m = record { found = joined_both _ _ l.found m.found; laid = joined_both _ _ l.laid m.laid; fits = omega (arith, l.fits, m.fits); room = m.room ∙ l.room }

module _ (m : Model) (Q : ℕ) where
  -- what is laid is no more than there is room for
  pub roomy_laid : {rows more : List NumberSet} {pile higher : Pile Position} {D : ℕ × ℕ → Type 0} → ((p : ℕ × ℕ) → D p → (p.0 < m.states) × (p.1 < Q)) → Roomy m Q rows pile → Laid rows pile more higher D → Roomy m Q more higher
  roomy_laid new r l = record { inside = λ p h. ⊎_elim (r.inside p) (new p) (l.found.only p h); waits = λ p o. ⊎_elim (λ w. l.found.keeps p (r.waits p w)) (l.found.puts p) (l.laid.only p o); few = omega (arith, l.fits, r.few); space = omega (arith, r.space, l.room) }

  -- the pairs found are no more than there are pairs
  pub found_few : (rows : List NumberSet) → ((p : ℕ × ℕ) → Holds rows p → (p.0 < m.states) × (p.1 < Q)) → size rows 32 ≤ m.states * Q
  found_few rows inside = omega (arith, (size_few m.states Q rows inside 32).1, mul_comm m.states (Q))

  -- a pair that is not found yet: there is room for one more
  pub room_new : {rows : List NumberSet} {pile : Pile Position} → length rows ≡ 32 → Q ≤ 32 → Roomy m Q rows pile → (x : ℕ × ℕ) → x.0 < m.states → x.1 < Q → (Holds rows x → ⊥) → length (items pile) < room pile
  room_new {rows} {pile} long small r x a b new =
      let one : NumberSet = record { bits = 2 ^ x.0 } in
      let row : NumberSet = record { bits = bit_or (get_or rows x.1 nothing).bits (2 ^ x.0) } in
      let j : Joined (Holds rows) (Holds (set rows x.1 row)) (λ p. p ≡ (x.0, x.1)) = pair_added rows x.1 row one x.0 (omega arith) (omega (arith, m.few_states))
      (λ u. (λ h. ((one_exact (2 ^ x.0) x.0 refl u).0 h, omega (arith, m.few_states)), λ h. (one_exact (2 ^ x.0) x.0 refl u).1 h.0)) (or_joined (get_or rows x.1 nothing).bits (2 ^ x.0)) in
      let grows = size_new rows (set rows x.1 row) (x.0, x.1) (omega arith) new j in
      let few = found_few (set rows x.1 row) (λ p h. ⊎_elim (r.inside p) (λ e. subst (λ z. (z.0 < m.states) × (z.1 < Q)) (sym e) (a, b)) (j.only p h)) in
      omega (arith, r.few, r.space)

  -- a pair that is not found yet is found and laid on the pile
  pub laid_pushed : {rows more : List NumberSet} {pile higher : Pile Position} (x : Position) (r : Result (Unit {0}) Refusal) → length rows ≡ 32 → Q ≤ 32 → Roomy m Q rows pile → (x.state < m.states) × (x.watch < Q) → (Holds rows (pair x) → ⊥)
      → Joined (Holds rows) (Holds more) (λ p. p ≡ pair x) → Refuse (room pile ≤ length (items pile)) 23 Accept (refusal r) → MatchResult r (λ _. items higher ≡ items pile ++ x ∷ []) (λ _. higher ≡ pile) → room higher ≡ room pile
      → Laid rows pile more higher (λ p. p ≡ pair x)
  laid_pushed {pile = pile} {higher} x r long small roomy inside new j cause done same =
      laid_one x (omega (arith, inside.1)) new j (push_sure (items higher ≡ items pile ++ x ∷ []) (higher ≡ pile) r cause (room_new long small roomy (pair x) inside.0 inside.1 new) done) same

module _ (m : Model) (t : Table) where
  module _ (F K : ℕ → Type 0) (small : t.states ≤ 32) (rows more : List NumberSet) (D : ℕ × ℕ → Type 0) (j : Joined (Holds rows) (Holds more) D) where
    -- pairs that are bad, or forced into what is found, keep the rows sound
    pub sound_add : ((p : ℕ × ℕ) → D p → (p.0 < m.states) × (p.1 < t.states) × (Bad t K p.0 p.1 ⊎ Forced m t F (λ u r. Holds rows (u, r)) p.0 p.1)) → Sound m t F K rows → Sound m t F K more
    sound_add new sound p h = go (holds_dec rows p)
      where
        grown : (Holds rows p → ⊥) → p.1 < 32 → Dec (size rows 32 < size more 32) → suc (size rows 32) ≤ size more 32
        grown n s (yes l) = omega arith
        grown n s (no l) = absurd (n (table_same rows more j.keeps (omega arith) p s h))

        fresh : (Holds rows p → ⊥) → D p → (p.0 < m.states) × (p.1 < t.states) × DoomedWithin m t F K (size more 32) p.0 p.1
        fresh n d =
            let (a, b, w) = new p d in
            let now : DoomedWithin m t F K (suc (size rows 32)) p.0 p.1 = ⊎_elim inl (λ f. inr (f.0, f.1, λ x y. (sound _ (f.2 x y)).2)) w in
            (a, b, doomed_more m t F K (suc (size rows 32)) (size more 32) p.0 p.1 (grown n (omega arith) (dec_lt _ _)) now)

        go : Dec (Holds rows p) → (p.0 < m.states) × (p.1 < t.states) × DoomedWithin m t F K (size more 32) p.0 p.1
        go (yes old) = let (a, b, d) = sound p old in (a, b, doomed_more m t F K (size rows 32) (size more 32) p.0 p.1 (table_grows rows more j.keeps) d)
        go (no n) = ⊎_elim (λ old. absurd (n old)) (fresh n) (j.only p h)

-- of the states of all, those that are not left
abbrev pub Taken : ℕ → NumberSet → NumberSet → ℕ × ℕ → Type 0
Taken watch all rest p = (p.1 ≡ watch) × Has all p.0 × (Has rest p.0 → ⊥)

-- one state after another
pub taken_more : {a b c : List NumberSet} {x y z : Pile Position} (watch : ℕ) (all rest fewer : NumberSet) (n : ℕ) → Joined (Has fewer) (Has rest) (λ u. u ≡ n) → ((u : ℕ) → Has fewer u → u < n) → ((s : ℕ) → Has rest s → Has all s)
    → Laid a x b y (Taken watch all rest) → Laid b y c z (λ p. p ≡ (n, watch)) → Laid a x c z (Taken watch all fewer)
taken_more watch all rest fewer n j gone sub l m = laid_like to from (laid_both l m)
  where
    to : (p : ℕ × ℕ) → Taken watch all rest p ⊎ (p ≡ (n, watch)) → Taken watch all fewer p
    to p (inl (e, h, k)) = (e, h, λ r. k (j.keeps p.0 r))
    to p (inr e) = (ap (λ z. z.1) e, subst (Has all) (sym (ap (λ z. z.0) e)) (sub n (j.puts n refl)), λ r. absurd (omega (arith, gone p.0 r, ap (λ z. z.0) e)))

    from : (p : ℕ × ℕ) → Taken watch all fewer p → Taken watch all rest p ⊎ (p ≡ (n, watch))
    from p (e, h, k) = go (ℕ_discrete p.0 n)
      where
        go : Dec (p.0 ≡ n) → Taken watch all rest p ⊎ (p ≡ (n, watch))
        go (yes d) = inr (pair_is p n watch d e)
        go (no d) = inl (e, h, λ r. ⊎_elim k d (j.only p.0 r))

-- the top of the pile is taken off
module _ (m : Model) (Q : ℕ) (rows : List NumberSet) (pile lower : Pile Position) where
  roomy_less : (x : Position) → items pile ≡ items lower ++ x ∷ [] → room lower ≡ room pile → Roomy m Q rows pile → Roomy m Q rows lower
  roomy_less x e same r = record {
    inside = r.inside;
    waits = λ p o. r.waits p (subst (λ xs. On xs p) (sym e) ((on_more (items lower) x).keeps p o));
    few = omega (arith, r.few, ap length e, length-append (items lower) (x ∷ []));
    space = omega (arith, r.space, same);
  }

  top_inside : (x : Position) → items pile ≡ items lower ++ x ∷ [] → Roomy m Q rows pile → (x.state < m.states) × (x.watch < Q)
  top_inside x e r = r.inside (pair x) (r.waits (pair x) (subst (λ xs. On xs (pair x)) (sym e) ((on_more (items lower) x).puts (pair x) refl)))

  pub roomy_popped : (r : Option Position) → MatchOption r (items pile ≡ []) (λ top. items pile ≡ items lower ++ top ∷ []) → (IsNone r → lower ≡ pile) → room lower ≡ room pile → Roomy m Q rows pile → Roomy m Q rows lower
  roomy_popped None e same kept roomy = subst (Roomy m Q rows) (sym (same refl)) roomy
  roomy_popped (Some x) e same kept roomy = roomy_less x e kept roomy

  pub popped_inside : (r : Option Position) → MatchOption r (items pile ≡ []) (λ top. items pile ≡ items lower ++ top ∷ []) → Roomy m Q rows pile → IfSome r (λ x. (x.state < m.states) × (x.watch < Q))
  popped_inside None e roomy = tt
  popped_inside (Some x) e roomy = top_inside x e roomy
