-- From a pair that is not doomed a maximal path that keeps the release.
use Rattle.std.proofs.Common.{◌≡◌, ℕ, zero, suc, ◌+◌, ◌-◌, ◌*◌, ◌/◌, ◌%◌, ◌<◌, ◌≤◌, true, ◌⊎◌, List, [], ◌∷◌, length, take, Some, unwrap_or, sym, refl, ap, ◌∙◌, subst, inl, inr, ⊎_elim, mul-le-mul_right, suc-mul, suc-add, zero-add, arith}
use lib.Arith.{digits_mod, digits_div}
use native.Mathlib.Decide.{dec_le, ℕ_discrete}
use Rattle.std.specs.List.{slice_get}
use Rattle.model.specs.declared.edge.Edge.{Edge}
use Rattle.model.specs.declared.edge.Step.{Step}
use Rattle.model.specs.declared.model.Model.{Model}
use Rattle.model.specs.Models.{HasEdge, edges_of}
use Rattle.model.specs.Relations.{Among}
use Rattle.model.specs.Edges.{Inside}
use Rattle.language.specs.Tables.{Table, step, run, Complete}
use Rattle.logic.specs.Paths.{edge, Chain, end, word}
use Rattle.logic.specs.Maximal.{Maximal, stopped, endless, Dead, first, Keeps, SomeKeeps}
use Rattle.walks.specs.Releases.{MarkedFrom, Forced, Bad}
use Rattle.walks.proofs.Pigeons.{find, pigeon}

abbrev step_of_edge : Edge → Step
step_of_edge e = record { action = e.action; state = e.to }

-- a step out of s with P, or none
module _ (s : ℕ) (P : Step → Type 0) (dec : (x : Step) → Dec (P x)) where
  pub seek : (es : List Edge) → ((x : Step) × Among (edge s x) es × P x) ⊎ ((x : Step) → Among (edge s x) es → P x → ⊥)
  seek [] = inr (λ x m p. let e : slice_get [] m.0 ≡ Some (edge s x) = m.1 in let z : ◌≡◌ {A = ℕ} 0 1 = cc in omega arith)
  seek (e ∷ es) = go (ℕ_discrete e.from s) (dec (step_of_edge e)) (seek es)
    where
      later : (x : Step) → ((k : ℕ) → slice_get (e ∷ es) k ≡ Some (edge s x) → (k ≡ 0 → P x → ⊥) → (Among (edge s x) es → P x → ⊥) → P x → ⊥)
      later x zero h none rest p = none refl p
      later x (suc k) h none rest p = rest (k, h) p

      go : Dec (e.from ≡ s) → Dec (P (step_of_edge e)) → ((x : Step) × Among (edge s x) es × P x) ⊎ ((x : Step) → Among (edge s x) es → P x → ⊥) → ((x : Step) × Among (edge s x) (e ∷ es) × P x) ⊎ ((x : Step) → Among (edge s x) (e ∷ es) → P x → ⊥)
      go f d (inl (x, (k, h), p)) = inl (x, (suc k, h), p)
      go (yes f) (yes p) (inr none) = inl (step_of_edge e, (0, ap (λ s. Some (record { from = s; action = e.action; to = e.to })) f), p)
      go (yes f) (no np) (inr none) = inr (λ x m p. later x m.0 m.1 (λ z q. let h : slice_get (e ∷ es) 0 ≡ Some (edge s x) = subst (λ k. slice_get (e ∷ es) k ≡ Some (edge s x)) z m.1 in let i : e ≡ edge s x = cc in np (subst P (sym (ap step_of_edge i)) q)) (none x) p)
      go (no nf) d (inr none) = inr (λ x m p. later x m.0 m.1 (λ z q. let h : slice_get (e ∷ es) 0 ≡ Some (edge s x) = subst (λ k. slice_get (e ∷ es) k ≡ Some (edge s x)) z m.1 in let i : e ≡ edge s x = cc in nf (ap (λ y. y.from) i)) (none x) p)

pub take_first : (f : ℕ → Step) (n m : ℕ) → n ≤ m → take n (first f m) ≡ first f n
take_first f zero m l = refl
take_first f (suc n) zero l = absurd (omega arith)
take_first f (suc n) (suc m) l = ap (λ r. f 0 ∷ r) (take_first (λ k. f (suc k)) n m (omega arith))

pub length_first : (f : ℕ → Step) (n : ℕ) → length (first f n) ≡ n
length_first f zero = refl
length_first f (suc n) = ap suc (length_first (λ k. f (suc k)) n)

abbrev Pos : Type 0
Pos = ℕ × ℕ

-- a pair as one number
pub place_below : {S Q s q : ℕ} → s < S → q < Q → s * Q + q < S * Q
place_below {S} {Q} {s} {q} a b = omega (arith, mul-le-mul_right {m = suc s} {n = S} Q a, suc-mul s Q)

pub place_same : {Q : ℕ} {x y : Pos} → x.1 < Q → y.1 < Q → x.0 * Q + x.1 ≡ y.0 * Q + y.1 → x ≡ y
place_same {Q} {x} {y} a b e =
    let q : x.1 ≡ y.1 = sym (digits_mod x.0 a) ∙ ap (λ n. n % Q) e ∙ digits_mod y.0 b in
    let s : x.0 ≡ y.0 = sym (digits_div x.0 a) ∙ ap (λ n. n / Q) e ∙ digits_div y.0 b in
    let P : ℕ → ℕ → Pos = λ m n. (m, n) in
    ap (λ n. P n x.1) s ∙ ap (λ n. P y.0 n) q

-- a complete table stays among its states
pub step_below : (n : ℕ) (t : Table) → Complete n t → (q a : ℕ) → q < t.states → a < n → step t q a < t.states
step_below n t whole q a b c =
    let (r, is, l) = whole.leads q a b c in
    subst (λ o. unwrap_or o t.states < t.states) (sym is) l

module _ (model : Model) (t : Table) (F K : ℕ → Type 0) (D : ℕ → ℕ → Type 0) where
  -- what to do at a pair: stop, or a step, not to doom unless doom is forced
  abbrev pub Choice : ℕ → ℕ → Type 0
  Choice s q = Dead model s ⊎ ((x : Step) × HasEdge model (edge s x) × ((Forced model t F D s q → ⊥) → (F s → ⊥) → D x.state (step t q x.action) → ⊥))

  pub choice : ((s q : ℕ) → Dec (D s q)) → (s q : ℕ) → Choice s q
  choice dec_d s q = go (seek s (λ x. D x.state (step t q x.action) → ⊥) (λ x. flip (dec_d x.state (step t q x.action))) (edges_of model)) (seek s (λ x. Unit {0}) (λ x. yes tt) (edges_of model))
    where
      flip : {P : Type 0} → Dec P → Dec (P → ⊥)
      flip (yes p) = no (λ n. n p)
      flip (no n) = yes n

      sure : {P : Type 0} → Dec P → ((P → ⊥) → ⊥) → P
      sure (yes p) nn = p
      sure (no n) nn = absurd (nn n)

      go : ((x : Step) × HasEdge model (edge s x) × (D x.state (step t q x.action) → ⊥)) ⊎ ((x : Step) → HasEdge model (edge s x) → (D x.state (step t q x.action) → ⊥) → ⊥) → ((x : Step) × HasEdge model (edge s x) × Unit {0}) ⊎ ((x : Step) → HasEdge model (edge s x) → Unit {0} → ⊥) → Choice s q
      go (inl (x, e, n)) any = inr (x, e, λ _ _. n)
      go (inr all) (inl (x, e, u)) = inr (x, e, λ unforced free d. unforced (free, (x, e), λ y f. sure (dec_d y.state (step t q y.action)) (all y f)))
      go (inr all) (inr none) = inl (λ x e. none x e tt)

  abbrev land : (p : Pos) → Choice p.0 p.1 → Pos
  land p (inl d) = p
  land p (inr m) = (m.0.state, step t p.1 m.0.action)

  abbrev step_of : (p : Pos) → Choice p.0 p.1 → Step
  step_of p (inl d) = record { action = 0; state = 0 }
  step_of p (inr m) = m.0

  abbrev Halt : (p : Pos) → Choice p.0 p.1 → Type 0
  Halt p (inl d) = Unit {0}
  Halt p (inr m) = ⊥

  halt_dec : (p : Pos) (c : Choice p.0 p.1) → Dec (Halt p c)
  halt_dec p (inl d) = yes tt
  halt_dec p (inr m) = no (λ h. h)

  moved : (p : Pos) (c : Choice p.0 p.1) → (Halt p c → ⊥) → HasEdge model (edge p.0 (step_of p c)) × (land p c ≡ ((step_of p c).state, step t p.1 (step_of p c).action))
  moved p (inl d) n = absurd (n tt)
  moved p (inr m) n = (m.1, refl)

  careful : (p : Pos) (c : Choice p.0 p.1) → (Halt p c → ⊥) → (Forced model t F D p.0 p.1 → ⊥) → (F p.0 → ⊥) → D (land p c).0 (land p c).1 → ⊥
  careful p (inl d) n = absurd (n tt)
  careful p (inr m) n = m.2

  halted : (p : Pos) (c : Choice p.0 p.1) → Halt p c → Dead model p.0
  halted p (inl d) h = d
  halted p (inr m) h = absurd h

  module _ (choose : (s q : ℕ) → Choice s q) where
    abbrev after : Pos → Pos
    after p = land p (choose p.0 p.1)

    abbrev walk : Pos → ℕ → Pos
    walk p zero = p
    walk p (suc n) = walk (after p) n

    abbrev Stops : Pos → Type 0
    Stops p = Halt p (choose p.0 p.1)

    abbrev path : Pos → ℕ → Step
    path p n = let r = walk p n in step_of r (choose r.0 r.1)

    along : (n : ℕ) (p : Pos) → ((k : ℕ) → k < n → Stops (walk p k) → ⊥) → Chain model p.0 (first (path p) n) × (end p.0 (first (path p) n) ≡ (walk p n).0) × (run t p.1 (word model (first (path p) n)) ≡ (walk p n).1)
    along zero p m = (tt, refl, refl)
    along (suc n) p m =
        let ih = along n (after p) (λ k l. m (suc k) (omega arith)) in
        let (e, is) = moved p (choose p.0 p.1) (m 0 (omega arith)) in
        ((e, subst (λ z. Chain model z.0 (first (path (after p)) n)) is ih.0), subst (λ z. end z.0 (first (path (after p)) n) ≡ (walk (after p) n).0) is ih.1, subst (λ z. run t z.1 (word model (first (path (after p)) n)) ≡ (walk (after p) n).1) is ih.2)

    walk_add : (m n : ℕ) (p : Pos) → walk p (m + n) ≡ walk (walk p m) n
    walk_add zero n p = ap (walk p) (zero-add n)
    walk_add (suc m) n p = ap (walk p) (suc-add m n) ∙ walk_add m n (after p)

    -- a pair comes back: the walk goes on for ever
    module _ (N : ℕ) (p : Pos) (i j : ℕ) (less : i < j) (few : j ≤ N) (same : walk p i ≡ walk p j) (goes : (k : ℕ) → k ≤ N → Stops (walk p k) → ⊥) where
      forever : (b n : ℕ) → n ≤ b → Stops (walk p n) → ⊥
      forever zero n l = goes n (omega arith)
      forever (suc b) n l = go (forever b (i + (n - j))) (dec_le n N)
        where
          go : (i + (n - j) ≤ b → Stops (walk p (i + (n - j))) → ⊥) → Dec (n ≤ N) → Stops (walk p n) → ⊥
          go back (yes h) = goes n h
          go back (no h) =
              let e : j + (n - j) ≡ n = omega arith in
              let is : walk p n ≡ walk p (i + (n - j)) = ap (walk p) (sym e) ∙ walk_add j (n - j) p ∙ ap (λ r. walk r (n - j)) (sym same) ∙ sym (walk_add i (n - j) p) in
              λ h. back (omega arith) (subst Stops is h)

    module _ (S A Q : ℕ) (within : (e : Edge) → HasEdge model e → Inside S A e) (told : (q a : ℕ) → q < Q → a < A → step t q a < Q) where
      inside_after : (p : Pos) (c : Choice p.0 p.1) → p.0 < S → p.1 < Q → ((land p c).0 < S) × ((land p c).1 < Q)
      inside_after p (inl d) a b = (a, b)
      inside_after p (inr m) a b = let w = within _ m.1 in (w.2, told _ _ b w.1)

      inside : (n : ℕ) (p : Pos) → p.0 < S → p.1 < Q → ((walk p n).0 < S) × ((walk p n).1 < Q)
      inside zero p a b = (a, b)
      inside (suc n) p a b = let i = inside_after p (choose p.0 p.1) a b in inside n (after p) i.0 i.1

      module _ (dec_f : (s : ℕ) → Dec (F s)) (dec_k : (s : ℕ) → Dec (K s)) (clear : (s q : ℕ) → s < S → q < Q → (D s q → ⊥) → (Bad t K s q → ⊥) × (Forced model t F D s q → ⊥)) where
        -- never doomed on the way, or freed before
        safe : (n : ℕ) (p : Pos) → p.0 < S → p.1 < Q → (D p.0 p.1 → ⊥) → ((k : ℕ) → k < n → Stops (walk p k) → ⊥) → (D (walk p n).0 (walk p n).1 → ⊥) ⊎ ((k : ℕ) × (k < n) × F (walk p k).0)
        safe zero p a b d m = inl d
        safe (suc n) p a b d m = let i = inside_after p (choose p.0 p.1) a b in go (dec_f p.0) (λ nd. safe n (after p) i.0 i.1 nd (λ k l. m (suc k) (omega arith)))
          where
            go : Dec (F p.0) → ((D (after p).0 (after p).1 → ⊥) → (D (walk (after p) n).0 (walk (after p) n).1 → ⊥) ⊎ ((k : ℕ) × (k < n) × F (walk (after p) k).0))
                → (D (walk p (suc n)).0 (walk p (suc n)).1 → ⊥) ⊎ ((k : ℕ) × (k < suc n) × F (walk p k).0)
            go (yes f) later = inr (0, omega arith, f)
            go (no nf) later = ⊎_elim inl (λ f. inr (suc f.0, omega (arith, f.1), f.2)) (later (careful p (choose p.0 p.1) (m 0 (omega arith)) (clear p.0 p.1 a b d).1 nf))

        kept_at : (n : ℕ) (p : Pos) → p.0 < S → p.1 < Q → (D p.0 p.1 → ⊥) → ((k : ℕ) → k < n → Stops (walk p k) → ⊥)
            → t.marked (run t p.1 (word model (first (path p) n))) ≡ true → K (end p.0 (first (path p) n)) ⊎ ((k : ℕ) × (k < n) × F (end p.0 (first (path p) k)))
        kept_at n p a b d m mk = ⊎_elim (λ nd. inl (here (dec_k (walk p n).0) nd)) (λ f. inr (f.0, f.1, subst F (sym (along f.0 p (λ k l. m k (omega (arith, f.1)))).1) f.2)) (safe n p a b d m)
          where
            here : Dec (K (walk p n).0) → (D (walk p n).0 (walk p n).1 → ⊥) → K (end p.0 (first (path p) n))
            here (yes k) nd = subst K (sym (along n p m).1) k
            here (no nk) nd = let i = inside n p a b in absurd ((clear _ _ i.0 i.1 nd).0 (subst (λ q. t.marked q ≡ true) (along n p m).2 mk, nk))

        pub keeps_some : (s q : ℕ) → s < S → q < Q → (D s q → ⊥) → (π : Maximal model s) × Keeps F K (MarkedFrom t q) π
        keeps_some s q a b d = go (find (λ n. Stops (walk (s, q) n)) (λ n. let r = walk (s, q) n in halt_dec r (choose r.0 r.1)) (suc (S * Q)))
          where
            p : Pos
            p = (s, q)

            go : ((n : ℕ) × (n < suc (S * Q)) × Stops (walk (s, q) n) × ((k : ℕ) → k < n → Stops (walk (s, q) k) → ⊥)) ⊎ ((n : ℕ) → n < suc (S * Q) → Stops (walk (s, q) n) → ⊥) → (π : Maximal model s) × Keeps F K (MarkedFrom t q) π
            go (inl (n, l, h, m)) =
                let c = along n (s, q) m in
                let r = walk (s, q) n in
                (stopped (first (path (s, q)) n) c.0 (subst (Dead model) (sym c.1) (halted r (choose r.0 r.1) h)), keeps)
              where
                keeps : Keeps {m = model} {s = s} F K (MarkedFrom t q) (stopped (first (path (s, q)) n) (along n (s, q) m).0 (subst (Dead model) (sym (along n (s, q) m).1) (halted (walk (s, q) n) (choose (walk (s, q) n).0 (walk (s, q) n).1) h)))
                keeps i mo mk =
                    let le : i ≤ n = omega (arith, length_first (path (s, q)) n) in
                    let e = take_first (path (s, q)) i n le in
                    ⊎_elim (λ k. inl (subst (λ z. K (end s z)) (sym e) k)) (λ f. inr (f.0, f.1, subst (λ z. F (end s z)) (sym (take_first (path (s, q)) f.0 n (omega (arith, f.1)))) f.2))
                    (kept_at i (s, q) a b d (λ k l. m k (omega arith)) (subst (λ z. t.marked (run t q (word model z)) ≡ true) e mk))
            go (inr none) =
                let (i, j, ij, j_n, same) = pigeon (S * Q) (λ n. (walk (s, q) n).0 * Q + (walk (s, q) n).1) (λ n l. let w = inside n (s, q) a b in place_below w.0 w.1) in
                let wi = inside i (s, q) a b in let wj = inside j (s, q) a b in
                let back : walk (s, q) i ≡ walk (s, q) j = place_same wi.1 wj.1 same in
                let on = λ (n : ℕ). forever (S * Q) (s, q) i j ij j_n back (λ k l. none k (omega arith)) n n (omega arith) in
                (endless (path (s, q)) (λ n. (along n (s, q) (λ k l. on k)).0), λ n mo mk. kept_at n (s, q) a b d (λ k l. on k) mk)

-- where the pairs outside D are neither bad nor forced into D, each of them has a maximal path that keeps the release
pub kept_outside : (model : Model) (t : Table) (F K : ℕ → Type 0) (D : ℕ → ℕ → Type 0) → Complete model.actions t → ((s : ℕ) → Dec (F s)) → ((s : ℕ) → Dec (K s)) → ((s q : ℕ) → Dec (D s q))
    → ((s q : ℕ) → s < model.states → q < t.states → (D s q → ⊥) → (Bad t K s q → ⊥) × (Forced model t F D s q → ⊥))
    → (s q : ℕ) → s < model.states → q < t.states → (D s q → ⊥) → SomeKeeps model F K (MarkedFrom t q) s
kept_outside model t F K D whole dec_f dec_k dec_d clear =
    keeps_some model t F K D (choice model t F K D dec_d) model.states model.actions t.states model.inside (step_below model.actions t whole) dec_f dec_k clear
