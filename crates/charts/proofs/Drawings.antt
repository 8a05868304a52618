-- The charts: one arrow for each edge and for each step of the table.
use Rattle.std.proofs.Common.{◌≡◌, ℕ, ◌+◌, ◌<◌, ◌≤◌, List, length, get_or, Some, None, sym, refl, ap, ◌∙◌, subst, arith}
use Rattle.std.specs.List.{slice_get}
use Rattle.std.proofs.lemmas.Option.{slice_get-get_or}
use Rattle.model.specs.declared.edge.Edge.{Edge}
use Rattle.model.specs.declared.model.Model.{Model}
use Rattle.model.specs.declared.number_set.NumberSet.{NumberSet}
use Rattle.model.specs.Sets.{Has}
use Rattle.triples.specs.Triples.{InRow}
use Rattle.model.specs.Edges.{Inside, no_edge}
use Rattle.model.specs.Models.{HasEdge, edges_of}
use Rattle.model.specs.Relations.{Among, Joined, Upto, Exactly}
use Rattle.model.proofs.Joins.{joined_more, joined_like, among_more, among_exact}
use Rattle.language.specs.Tables.{Table, Complete}
use Rattle.charts.specs.Arrows.{Into, Out}

pub triple_is : (x : ℕ × ℕ × ℕ) (a b c : ℕ) → x.0 ≡ a → x.1 ≡ b → x.2 ≡ c → ◌≡◌ {A = ℕ × ℕ × ℕ} x (a, b, c)
triple_is x a b c e f g = let P : ℕ → ℕ → ℕ → ℕ × ℕ × ℕ = λ k m n. (k, m, n) in ap (λ n. P n x.1 x.2) e ∙ ap (λ n. P a n x.2) f ∙ ap (λ n. P a b n) g

-- a row with one number more is one triple more
pub one_more : (a b c : ℕ) (one : NumberSet) {P Q : ℕ × ℕ × ℕ → Type 0} → c < 32 → Exactly (Has one) (λ t. (t ≡ c) × (c < 32)) → Joined P Q (InRow a b (Has one)) → Joined P Q (λ x. x ≡ (a, b, c))
one_more a b c one few is j = joined_like _ _ (λ x m. triple_is x a b c m.0 m.1 ((is x.2).0 m.2).0) (λ x e. (ap (λ z. z.0) e, ap (λ z. z.1) e, (is x.2).1 (ap (λ z. z.2) e, few))) j

module _ (m : Model) (xs : List Edge) (is : xs ≡ edges_of m) where
  -- the edge at a place is one of the model's
  pub edge_at : (k : ℕ) → k < length xs → Inside m.states m.actions (get_or xs k no_edge)
  edge_at k l = m.inside (get_or xs k no_edge) (k, subst (λ ys. slice_get ys k ≡ Some (get_or xs k no_edge)) is (slice_get-get_or xs k no_edge l))

  -- one arrow for each edge
  pub arrow_each : (arrow : Edge → ℕ × ℕ × ℕ) {P Q R : ℕ × ℕ × ℕ → Type 0} (k : ℕ) → k < length xs → Joined P Q (Upto (λ k x. (e : Edge) × (slice_get xs k ≡ Some e) × (x ≡ arrow e)) k) → Joined Q R (λ x. x ≡ arrow (get_or xs k no_edge))
      → Joined P R (Upto (λ k x. (e : Edge) × (slice_get xs k ≡ Some e) × (x ≡ arrow e)) (k + 1))
  arrow_each arrow k l before now = joined_more _ k before (among_more xs k (get_or xs k no_edge) (λ e x. x ≡ arrow e) (slice_get-get_or xs k no_edge l) now)

  pub arrows_all : (arrow : Edge → ℕ × ℕ × ℕ) {P Q : ℕ × ℕ × ℕ → Type 0} (k : ℕ) → length xs ≤ k → ((x : ℕ × ℕ × ℕ) → P x → ⊥) → Joined P Q (Upto (λ k x. (e : Edge) × (slice_get xs k ≡ Some e) × (x ≡ arrow e)) k)
      → Exactly Q (λ x. (e : Edge) × HasEdge m e × (x ≡ arrow e))
  arrows_all arrow {P} {Q} k l none j = subst (λ ys. Exactly Q (λ x. (e : Edge) × Among e ys × (x ≡ arrow e))) is (among_exact xs k (λ e x. x ≡ arrow e) none l j)

-- arrows from end to start, and from start to end
pub into_exact : (m : Model) {Q : ℕ × ℕ × ℕ → Type 0} → Exactly Q (λ x. (e : Edge) × HasEdge m e × (x ≡ (e.action, e.to, e.from))) → Exactly Q (Into m)
into_exact m ex x = (λ q. let (e, h, is) = (ex x).0 q in subst (Into m) (sym is) h, λ h. (ex x).1 (record { from = x.2; action = x.0; to = x.1 }, h, refl))

pub out_exact : (m : Model) {Q : ℕ × ℕ × ℕ → Type 0} → Exactly Q (λ x. (e : Edge) × HasEdge m e × (x ≡ (e.action, e.from, e.to))) → Exactly Q (Out m)
out_exact m ex x = (λ q. let (e, h, is) = (ex x).0 q in subst (Out m) (sym is) h, λ h. (ex x).1 (record { from = x.1; action = x.0; to = x.2 }, h, refl))

-- a complete table has the step
pub step_there : (n : ℕ) (t : Table) → Complete n t → (q a : ℕ) → q < t.states → a < n → t.next q a ≡ None → ⊥
step_there n t whole q a b c e = let (r, is, l) = whole.leads q a b c in let z : ◌≡◌ {A = ℕ} 0 1 = cc in omega arith
