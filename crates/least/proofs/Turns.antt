-- What one turn of a lowering loop does, and all of them.
use Rattle.std.proofs.Common.{◌≡◌, ℕ, ◌+◌, ◌-◌, ◌^◌, ◌<◌, ◌≤◌, Bool, false, List, length, get_or, Some, sym, refl, ap, ◌∙◌, subst, inl, inr, arith}
use native.Mathlib.Decide.{dec_le, ℕ_discrete}
use Rattle.std.specs.List.{slice_get}
use Rattle.std.proofs.lemmas.Option.{slice_get-get_or}
use Rattle.model.specs.declared.edge.Edge.{Edge}
use Rattle.model.specs.Models.{HasEdge}
use Rattle.model.specs.Relations.{Among, Triple}
use Rattle.model.specs.Sets.{Has}
use Rattle.language.specs.declared.rule.Rule.{Rule}
use Rattle.language.specs.declared.rule.Rule.TheVariants.{Empty, Letter, Lead, Same, Pair}
use Rattle.least.specs.declared.scope.Scope.{Scope}
use Rattle.least.specs.declared.table.Table.{Table}
use Rattle.least.specs.Walks.{Walk}
use Rattle.logic.specs.Layouts.{place}
use Rattle.least.specs.Entries.{ground_of, entry_of, In, AtMost, Closed}
use Rattle.least.specs.Lowering.{Lowers, Given, Lifted, Summed, Run, PairAt, Lower, LedAt, LedAlong, LetterAt, EmptyAt, ShutAt, ShutStart, ShutStarts, ShutAll, ShutIn, ShutRule, FirstPart}
use Rattle.least.proofs.Walking.{walk_from}
use Rattle.least.proofs.Runs.{place_in, run_of, run_none, run_like}

pub is_in : (c : Scope) (X u t : ℕ) → X < c.symbols → u < c.states → t < c.states → In c (X, u, t)
is_in c X u t a b d = record { symbol = a; from = b; to = d }

-- the edges of the model, in the scope
pub ends_in : (c : Scope) (e : Edge) → HasEdge c.ground.now.model e → (e.from < c.states) × (e.to < c.states)
ends_in c e e∈ = let i = c.ground.now.model.inside e e∈ in (omega (arith, i.0, c.its_states), omega (arith, i.2, c.its_states))

-- the cell of a fact is in the table
pub in_table : (t : Table) (cell : ℕ) (p : Triple) → In t.scope p → cell ≡ place t.scope.states p → cell < length t.entries.now
in_table t cell p i e = subst (λ n. n < length t.entries.now) (sym e) (place_in t.scope (length t.entries.now) p t.room i)

-- the same, where the table's scope is as it was
pub in_at : (c d : Scope) (p : Triple) → d ≡ c → In c p → In d p
in_at c d p e i = subst (λ z. In z p) (sym e) i

pub is_at : (c d : Scope) {X u t : ℕ} → d ≡ c → X < c.symbols → u < c.states → t < c.states → In d (X, u, t)
is_at c d {X} {u} {t} e a b l = in_at c d (X, u, t) e (is_in c X u t a b l)

pub place_at : (c d : Scope) (cell : ℕ) (p : Triple) → d ≡ c → cell ≡ place c.states p → cell ≡ place d.states p
place_at c d cell p e is = subst (λ z. cell ≡ place z.states p) (sym e) is

pub edge_at : (c d : Scope) (e : Edge) → d ≡ c → HasEdge c.ground.now.model e → HasEdge d.ground.now.model e
edge_at c d e same e∈ = subst (λ (z : Scope). HasEdge z.ground.now.model e) (sym same) e∈

-- the row of a symbol and a from-state is in the table
pub row_in : (t : Table) (cell X u : ℕ) → X < t.scope.symbols → u < t.scope.states → cell ≡ place t.scope.states (X, u, 0) → cell + t.scope.states ≤ length t.entries.now
row_in t cell X u lx lu e = let l = in_table t _ (X, u, t.scope.states - 1) (is_in t.scope X u (t.scope.states - 1) lx lu (omega arith)) refl in omega (arith, l, e)

-- the element of a list that is the same as another
pub item_in : {X : Type 0} (xs ys : List X) (i : ℕ) (d : X) → xs ≡ ys → i < length xs → slice_get ys i ≡ Some (get_or xs i d)
item_in xs ys i d e l = ap (λ zs. slice_get zs i) (sym e) ∙ slice_get-get_or xs i d l

module _ (rules : List Rule) (top : ℕ) where
  pub pair_turn : (H B C s u t : ℕ) (part other cell : ℕ) {a b : Table} {fell : Bool} → top < 2 ^ 16 → Among (Pair H B C) rules
      → In a.scope (B, s, u) → In a.scope (C, u, t) → In a.scope (H, s, t)
      → part ≡ place a.scope.states (B, s, u) → other ≡ place a.scope.states (C, u, t) → cell ≡ place a.scope.states (H, s, t)
      → Lowers top cell (Summed part other) a b fell → Run rules (PairAt top (B, s, u) (C, u, t) (H, s, t)) a b fell
  pair_turn H B C s u t part other cell {a} {b} {fell} low r∈ i₁ i₂ i₃ e₁ e₂ e₃ j =
      run_like rules _ (λ at. at)
      (run_of rules (H, s, t) i₃ low
      (λ so n (i, j, f₁, f₂, z). walk_from (ground_of a.scope) rules (Pair H B C) (H, s, t) n r∈ (refl, u, i, j, so (B, s, u) i (record { there = i₁; is = f₁ }), so (C, u, t) j (record { there = i₂; is = f₂ }), z))
      (subst (λ x. Lowers top x (Summed (place a.scope.states (B, s, u)) (place a.scope.states (C, u, t))) a b fell) e₃
      (subst (λ x. Lowers top cell (Summed x (place a.scope.states (C, u, t))) a b fell) e₁ (subst (λ x. Lowers top cell (Summed part x) a b fell) e₂ j))))

  pub left_all : (H B C s u : ℕ) (a b : Table) (fell : Bool) → Run rules (λ w. (t : ℕ) → t < w.scope.states → PairAt top (B, s, u) (C, u, t) (H, s, t) w) a b fell → Run rules (ShutAt top (Pair H B C) (B, s, u)) a b fell
  left_all H B C s u a b fell j = run_like rules _ (λ at p n n< (x, u', i, j, (q, kn₁), kn₂, z).
      let e₁ : p.1 ≡ s = ap (λ (y : Triple). y.1) q in
      let e₂ : u' ≡ u = ap (λ (y : Triple). y.2) q in
      subst (λ (y : Triple). AtMost n (entry_of a y)) (ap (λ y. (y, s, p.2)) (sym x) ∙ ap (λ y. (p.0, y, p.2)) (sym e₁))
      (at p.2 kn₂.there.to n (i, j, subst (λ (y : Triple). entry_of a y ≡ i + 1) q kn₁.is, subst (λ y. entry_of a (C, y, p.2) ≡ j + 1) e₂ kn₂.is, z) n<)) j

  -- a fact with which no entry of the row is lower gives nothing less
  pub left_none : (H B C s u known others heads : ℕ) (w : Table) → known ≡ entry_of w (B, s, u) → others ≡ place w.scope.states (C, u, 0) → heads ≡ place w.scope.states (H, s, 0)
      → ((k : ℕ) → k < w.scope.states → Lower top known (get_or w.entries.now (others + k) 0) (get_or w.entries.now (heads + k) 0) → ⊥) → Run rules (ShutAt top (Pair H B C) (B, s, u)) w w false
  left_none H B C s u known others heads w e o h none = left_all H B C s u w w false (run_none rules w _ (λ t l n (i, j, e₁, e₂, z) n<.
      let eo : others + t ≡ place w.scope.states (C, u, t) = omega arith in
      let eh : heads + t ≡ place w.scope.states (H, s, t) = omega arith in
      let second : get_or w.entries.now (others + t) 0 ≡ j + 1 = ap (λ x. get_or w.entries.now x 0) eo ∙ e₂ in
      let same : get_or w.entries.now (heads + t) 0 ≡ entry_of w (H, s, t) = ap (λ x. get_or w.entries.now x 0) eh in
      not_lower known (get_or w.entries.now (others + t) 0) (get_or w.entries.now (heads + t) 0) n (entry_of w (H, s, t)) same (omega arith) (omega arith) (omega arith) (none t l)))
    where
      not_lower : (known second old n entry : ℕ) → old ≡ entry → 0 < second → known + second ≡ n + 2 → n < top → (Lower top known second old → ⊥) → AtMost n entry
      not_lower known second old n entry same pos sum low none = go (ℕ_discrete old 0) (dec_le old (n + 1))
        where
          go : Dec (old ≡ 0) → Dec (old ≤ n + 1) → AtMost n entry
          go (yes z) d = absurd (none (pos, omega arith, inl z))
          go (no nz) (yes l) = record { some = omega arith; low = omega arith }
          go (no nz) (no l) = absurd (none (pos, omega arith, inr (omega arith)))

  pub lead_turn : (H act B s t : ℕ) (e : Edge) (part cell : ℕ) {a b : Table} {fell : Bool} → top < 2 ^ 16 → Among (Lead H act B) rules → HasEdge a.scope.ground.now.model e
      → e.action ≡ act → Has a.scope.ground.now.guard e.from → e.to ≡ s → In a.scope (B, s, t) → In a.scope (H, e.from, t)
      → part ≡ place a.scope.states (B, s, t) → cell ≡ place a.scope.states (H, e.from, t)
      → Lowers top cell (Lifted part 1) a b fell → Run rules (LedAt top H act (B, s, t) e) a b fell
  lead_turn H act B s t e part cell {a} {b} {fell} low r∈ e∈ ea g es i₁ i₂ e₁ e₂ j =
      run_like rules _ (λ f _ _ _. f)
      (run_of rules (H, e.from, t) i₂ low
      (λ so n (i, f, z). walk_from (ground_of a.scope) rules (Lead H act B) (H, e.from, t) n r∈ (refl, e, (e∈, refl, ea, g), i, subst (λ y. Walk (ground_of a.scope) rules (B, y, t) i) (sym es) (so (B, s, t) i (record { there = i₁; is = f })), z))
      (subst (λ x. Lowers top x (Lifted (place a.scope.states (B, s, t)) 1) a b fell) e₂ (subst (λ x. Lowers top cell (Lifted x 1) a b fell) e₁ j)))

  pub lead_all : (low high H act B : ℕ) (a b : Table) (fell : Bool) → Run rules (λ w. (e : Edge) → HasEdge w.scope.ground.now.model e → LedAlong top low high H act B e w) a b fell
      → Run rules (ShutRule top low high (Lead H act B)) a b fell
  lead_all low high H act B a b fell j = run_like rules _ (λ at f i lo hi p n n< (x, e, (e∈, fr, ea, g), k, (q, kn), z).
      subst (λ (y : Triple). AtMost n (entry_of a y)) (ap (λ y. (y, e.from, p.2)) (sym x) ∙ ap (λ y. (p.0, y, p.2)) (sym fr))
      (at e e∈ p.2 kn.there.to (subst (λ y. low ≤ entry_of a y) (sym q) lo) (subst (λ y. entry_of a y ≤ high) (sym q) hi) ea g refl n (k, kn.is, z) n<)) j

  pub letter_turn : (H act : ℕ) (e : Edge) (cell : ℕ) {a b : Table} {fell : Bool} → top < 2 ^ 16 → Among (Letter H act) rules → HasEdge a.scope.ground.now.model e
      → e.action ≡ act → Has a.scope.ground.now.guard e.from → In a.scope (H, e.from, e.to) → cell ≡ place a.scope.states (H, e.from, e.to)
      → Lowers top cell (Given 2) a b fell → Run rules (LetterAt top H act e) a b fell
  letter_turn H act e cell {a} {b} {fell} low r∈ e∈ ea g i e₁ j =
      run_like rules _ (λ f _ _. f)
      (run_of rules (H, e.from, e.to) i low
      (λ so n z. walk_from (ground_of a.scope) rules (Letter H act) (H, e.from, e.to) n r∈ (refl, e, (e∈, refl, ea, g), refl, omega arith))
      (subst (λ x. Lowers top x (Given 2) a b fell) e₁ j))

  pub letter_all : (H act : ℕ) (a b : Table) (fell : Bool) → Run rules (λ w. (e : Edge) → HasEdge w.scope.ground.now.model e → LetterAt top H act e w) a b fell
      → Run rules (ShutStart top (Letter H act)) a b fell
  letter_all H act a b fell j = run_like rules _ (λ at p n n< (x, e, (e∈, f, ea, g), et, z).
      subst (λ (y : Triple). AtMost n (entry_of a y)) (ap (λ y. (y, e.from, e.to)) (sym x) ∙ ap (λ y. (p.0, y, e.to)) (sym f) ∙ ap (λ y. (p.0, p.1, y)) (sym et))
      (at e e∈ ea g n (omega arith) n<)) j

  pub empty_turn : (H s : ℕ) (cell : ℕ) {a b : Table} {fell : Bool} → top < 2 ^ 16 → Among (Empty H) rules → In a.scope (H, s, s) → cell ≡ place a.scope.states (H, s, s)
      → Lowers top cell (Given 1) a b fell → Run rules (EmptyAt top H s) a b fell
  empty_turn H s cell {a} {b} {fell} low r∈ i e₁ j =
      run_like rules _ (λ f. f)
      (run_of rules (H, s, s) i low
      (λ so n z. walk_from (ground_of a.scope) rules (Empty H) (H, s, s) n r∈ (refl, omega (arith, i.from, a.scope.its_states), refl, omega arith))
      (subst (λ x. Lowers top x (Given 1) a b fell) e₁ j))

  pub empty_all : (H : ℕ) (a b : Table) (fell : Bool) → Run rules (λ w. (s : ℕ) → s < w.scope.states → EmptyAt top H s w) a b fell
      → Run rules (ShutStart top (Empty H)) a b fell
  empty_all H a b fell j = run_like rules _ (λ at p n n< (x, l, q, z).
      subst (λ (y : Triple). AtMost n (entry_of a y)) (ap (λ y. (y, p.1, p.1)) (sym x) ∙ ap (λ y. (p.0, p.1, y)) q)
      (at p.1 (omega (arith, a.scope.its_states)) n (omega arith) n<)) j

  pub same_turn : (H B s t : ℕ) (part cell : ℕ) {a b : Table} {fell : Bool} → top < 2 ^ 16 → Among (Same H B) rules
      → In a.scope (B, s, t) → In a.scope (H, s, t) → part ≡ place a.scope.states (B, s, t) → cell ≡ place a.scope.states (H, s, t)
      → Lowers top cell (Lifted part 0) a b fell → Run rules (ShutAt top (Same H B) (B, s, t)) a b fell
  same_turn H B s t part cell {a} {b} {fell} low r∈ i₁ i₂ e₁ e₂ j =
      run_like rules _ (λ at p n n< (x, (q, kn)).
      let e₁ : p.1 ≡ s = ap (λ (y : Triple). y.1) q in
      let e₂ : p.2 ≡ t = ap (λ (y : Triple). y.2) q in
      subst (λ (y : Triple). AtMost n (entry_of a y)) (ap (λ y. (y, s, t)) (sym x) ∙ ap (λ y. (p.0, y, t)) (sym e₁) ∙ ap (λ y. (p.0, p.1, y)) (sym e₂))
      (at n (n, subst (λ (y : Triple). entry_of a y ≡ n + 1) q kn.is, omega arith) n<))
      (run_of rules (H, s, t) i₂ low
      (λ so n (i, f, z). let e : i ≡ n = omega arith in walk_from (ground_of a.scope) rules (Same H B) (H, s, t) n r∈ (refl, subst (Walk (ground_of a.scope) rules (B, s, t)) e (so (B, s, t) i (record { there = i₁; is = f }))))
      (subst (λ x. Lowers top x (Lifted (place a.scope.states (B, s, t)) 0) a b fell) e₂ (subst (λ x. Lowers top cell (Lifted x 0) a b fell) e₁ j)))

  -- from the parts of a sweep to the whole
  pub shut_closed : (w : Table) → ShutStarts rules top w → ShutAll rules top 1 top w → Closed rules top w
  shut_closed w starts all (Empty H) p n r∈ n< d = starts (Empty H) r∈ p n n< d
  shut_closed w starts all (Letter H a) p n r∈ n< d = starts (Letter H a) r∈ p n n< d
  shut_closed w starts all (Lead H a B) p n r∈ n< (x, e, ld, j, kn, z) =
      all (Lead H a B) r∈ (B, e.to, p.2) kn.there (omega (arith, kn.is)) (omega (arith, kn.is)) p n n< (x, e, ld, j, (refl, kn), z)
  shut_closed w starts all (Same H B) p n r∈ n< (x, kn) =
      all (Same H B) r∈ (B, p.1, p.2) kn.there (omega (arith, kn.is)) (omega (arith, kn.is)) p n n< (x, (refl, kn))
  shut_closed w starts all (Pair H B C) p n r∈ n< (x, u, i, j, kn, kn₂, z) =
      all (Pair H B C) r∈ (B, p.1, u) kn.there (omega (arith, kn.is)) (omega (arith, kn.is)) p n n< (x, u, i, j, (refl, kn), kn₂, z)

  -- all facts of a rule's first part are all facts that matter to it
  pub part_all : (low high : ℕ) (r : Rule) (X : ℕ) {a b : Table} {fell : Bool} → FirstPart r X → Run rules (λ w. (s : ℕ) → s < w.scope.states → (t : ℕ) → t < w.scope.states → ShutIn top low high r (X, s, t) w) a b fell
      → Run rules (ShutRule top low high r) a b fell
  part_all low high (Empty H) X none j = absurd none
  part_all low high (Letter H a) X none j = absurd none
  part_all low high (Lead H act B) X none j = absurd none
  part_all low high (Same H B) X {a} is j = run_like rules _ (λ at f i lo hi p n n< (x, (q, kn)).
      subst (λ Y. ShutIn top low high (Same H B) (Y, p.1, p.2) a) is (at p.1 kn.there.from p.2 kn.there.to)
      (subst (λ y. low ≤ entry_of a y) (sym q) lo) (subst (λ y. entry_of a y ≤ high) (sym q) hi) p n n< (x, (refl, kn))) j
  part_all low high (Pair H B C) X {a} is j = run_like rules _ (λ at f i lo hi p n n< (x, u, k, l, (q, kn), kn₂, z).
      subst (λ Y. ShutIn top low high (Pair H B C) (Y, p.1, u) a) is (at p.1 kn.there.from u kn.there.to)
      (subst (λ y. low ≤ entry_of a y) (sym q) lo) (subst (λ y. entry_of a y ≤ high) (sym q) hi) p n n< (x, u, k, l, (refl, kn), kn₂, z)) j
