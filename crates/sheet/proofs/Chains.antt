-- Causes in a row: what passes the first ones, and what they stop.
use Rattle.std.proofs.Common.{◌≡◌, ℕ, ◌*◌, ◌<◌, ◌≤◌, ◌⊎◌, List, length, Some, None, Option, sym, inl, inr}
use Rattle.std.proofs.Math.Nat.{lt_of_not-le}
use Rattle.std.proofs.lemmas.Option.{none-some}
use Rattle.std.proofs.lemmas.Bool.{cases_lt}
use Rattle.model.specs.declared.edge.Step.{Step}
use Rattle.model.specs.declared.model.Model.{Model}
use Rattle.model.specs.Refusals.{Refuse, Accept}
use Rattle.sheet.specs.Causes.{OneMissing, CauseNot, CausePath, CauseUntil, CauseRelease, Told, TooLong, limit}
use Rattle.language.specs.Tables.{Table}

-- what a call that was not stopped has shown: its first cause was not met, and the later ones stopped nothing
pub passed : {C L : Type 0} {k : ℕ} → (C × (◌≡◌ {A = Option ℕ} None (Some k))) ⊎ ((C → ⊥) × L) → (C → ⊥) × L
passed (inl met) = absurd (none-some _ met.1)
passed (inr met) = met

-- a cause that stopped nothing lets through what comes of the later ones
pub pass : {C L L' : Type 0} {k : ℕ} {o : Option ℕ} → (C × (◌≡◌ {A = Option ℕ} None (Some k))) ⊎ ((C → ⊥) × L) → (L → L') → (C × (o ≡ Some k)) ⊎ ((C → ⊥) × L')
pass free f = let p = passed free in inr (p.0, f p.1)

-- the later causes in other words
pub later_like : {C L L' : Type 0} {k : ℕ} {o : Option ℕ} → (L → L') → (C × (o ≡ Some k)) ⊎ ((C → ⊥) × L) → (C × (o ≡ Some k)) ⊎ ((C → ⊥) × L')
later_like f (inl met) = inl met
later_like f (inr met) = inr (met.0, f met.1)

-- the last cause in other words
pub last_like : {C C' L : Type 0} {k : ℕ} {o : Option ℕ} → (C → C') → (C' → C) → (C × (o ≡ Some k)) ⊎ ((C → ⊥) × L) → (C' × (o ≡ Some k)) ⊎ ((C' → ⊥) × L)
last_like to from (inl met) = inl (to met.0, met.1)
last_like to from (inr met) = inr (λ c. met.0 (from c), met.1)

not_lt : {a b : ℕ} → (a < b → ⊥) → b ≤ a
not_lt {a} {b} none = elim (cases_lt a b) [ inl l ↦ absurd (none l) | inr l ↦ l ]

-- what an accepted call has shown of its parts
pub part_there : (n q : ℕ) → CauseNot q n None → q < n
part_there n q free = lt_of_not-le (passed free).0

pub parts_there : (n a b : ℕ) {L : Type 0} → (OneMissing a b n × (◌≡◌ {A = Option ℕ} None (Some 21))) ⊎ ((OneMissing a b n → ⊥) × L) → (a < n) × (b < n)
parts_there n a b free = let none = (passed free).0 in (lt_of_not-le (λ l. none (inl l)), lt_of_not-le (λ l. none (inr l)))

abbrev pub none_good : List Step → Type 0
none_good p = ⊥

module _ (m : Model) (l : Told) (work waiting steps guard goal s n : ℕ) where
  -- the path search ran, and says what comes of the last cause
  pub path_pass : {Good : List Step → Type 0} {o : Option ℕ} → CausePath m l work waiting steps guard goal s none_good n None → Refuse (TooLong Good (limit steps)) 24 Accept o → CausePath m l work waiting steps guard goal s Good n o
  path_pass free last = pass free (λ h. pass h (λ h. pass h (λ h. pass h (λ h. pass h (λ h. pass h (λ _. last))))))

  -- a cause before the last was met
  pub path_stop : {Good : List Step → Type 0} {e : ℕ} → CausePath m l work waiting steps guard goal s none_good n (Some e) → CausePath m l work waiting steps guard goal s Good n (Some e)
  path_stop {Good} {e} met = later_like (later_like (later_like (later_like (later_like (later_like none))))) met
    where
      none : Refuse (TooLong none_good (limit steps)) 24 Accept (Some e) → Refuse (TooLong Good (limit steps)) 24 Accept (Some e)
      none (inl h) = absurd h.0.0.1
      none (inr h) = absurd (none-some _ (sym h.1))

pub until_there : (m : Model) (l : Told) (work guard goal n : ℕ) → CauseUntil m l work guard goal n None → (guard < n) × (goal < n)
until_there m l work guard goal n free = parts_there n guard goal (passed (passed (passed free).1).1).1

pub release_there : (m : Model) (known : ℕ) (t : Table) (freeing kept n : ℕ) → CauseRelease m known t freeing kept n None → (freeing < n) × (kept < n)
release_there m known t freeing kept n free = parts_there n freeing kept (passed (passed free).1).1

-- what a path search may rest on
pub record Searchable (m : Model) (l : Told) (work waiting steps guard goal s n : ℕ) : Type 0 where
  pub state : s < m.states
  pub symbols : l.symbols ≤ 16
  pub rules : length l.rules ≤ 128
  pub room : l.symbols * m.states * m.states ≤ work
  pub memory : steps ≤ waiting
  pub guarded : guard < n
  pub aimed : goal < n

pub searchable : (m : Model) (l : Told) (work waiting steps guard goal s n : ℕ) → CausePath m l work waiting steps guard goal s none_good n None → Searchable m l work waiting steps guard goal s n
searchable m l work waiting steps guard goal s n free =
    let a = passed free in
    let b = passed (passed a.1).1 in
    let c = passed b.1 in
    let d = passed c.1 in
    let there = parts_there n guard goal d.1 in
    record {
      state = lt_of_not-le a.0;
      symbols = not_lt (λ h. b.0 (inl h));
      rules = not_lt (λ h. b.0 (inr h));
      room = not_lt c.0;
      memory = not_lt d.0;
      guarded = there.0;
      aimed = there.1;
    }
