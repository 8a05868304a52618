-- Charts that are merely said to be right are right: each of their facts can be decided.
use Rattle.std.proofs.Common.{◌≡◌, ℕ, ◌<◌, ◌⊎◌, Bool, true, false, Some, None, Option, refl, subst, inl, inr}
use native.Mathlib.Decide.{dec_le, dec_lt, ℕ_discrete}
use Rattle.std.proofs.lemmas.Grind.{not_there}
use Rattle.model.specs.declared.edge.Edge.{Edge}
use Rattle.model.specs.declared.edge.Step.{Step}
use Rattle.model.specs.declared.model.Model.{Model}
use Rattle.model.specs.Models.{HasEdge, edges_of}
use Rattle.triples.proofs.TripleRows.{holds_dec}
use Rattle.language.specs.Tables.{Table, step, Complete}
use Rattle.logic.specs.Paths.{edge}
use Rattle.walks.proofs.Walks.{seek}
use Rattle.charts.specs.declared.charts.Charts.{Charts}
use Rattle.charts.specs.Arrows.{Back, Charted}

pub sure : {P : Type 0} → Dec P → ((P → ⊥) → ⊥) → P
sure (yes p) nn = p
sure (no n) nn = absurd (nn n)

both : {P Q : Type 0} → Dec P → Dec Q → Dec (P × Q)
both (yes p) (yes q) = yes (p, q)
both (no n) d = no (λ b. n b.0)
both (yes p) (no n) = no (λ b. n b.1)

back_dec : (n : ℕ) (t : Table) (x : ℕ × ℕ × ℕ) → Dec (Back n t x)
back_dec n t x = go (dec_lt x.2 t.states) (dec_lt x.0 n) (ℕ_discrete (step t x.2 x.0) x.1)
  where
    go : Dec (x.2 < t.states) → Dec (x.0 < n) → Dec (step t x.2 x.0 ≡ x.1) → Dec (Back n t x)
    go (yes a) (yes b) (yes c) = yes (a, b, c)
    go (no a) d e = no (λ k. a k.0)
    go (yes a) (no b) e = no (λ k. b k.1)
    go (yes a) (yes b) (no c) = no (λ k. c k.2)

none_sure : (o : Option ℕ) → ((o ≡ None → ⊥) → ⊥) → o ≡ None
none_sure (Some r) nn = absurd (nn (λ e. cc))
none_sure None nn = refl

false_sure : (b : Bool) → ((b ≡ false → ⊥) → ⊥) → b ≡ false
false_sure true nn = absurd (nn (λ e. cc))
false_sure false nn = refl

some_sure : (n : ℕ) (o : Option ℕ) → (((r : ℕ) × (o ≡ Some r) × (r < n) → ⊥) → ⊥) → (r : ℕ) × (o ≡ Some r) × (r < n)
some_sure n (Some r) nn = (r, refl, sure (dec_lt r n) (λ no. nn (λ (k, is, l). let e : r ≡ k = cc in no (subst (λ j. j < n) (cc) l))))
some_sure n None nn = absurd (nn (λ (k, is, l). cc))

complete_sure : (n : ℕ) (t : Table) → ((Complete n t → ⊥) → ⊥) → Complete n t
complete_sure n t nn = record {
  starts = sure (dec_lt t.start t.states) (λ no. nn (λ w. no w.starts));
  leads = λ q a l k. some_sure t.states (t.next q a) (λ no. nn (λ w. no (w.leads q a l k)));
  no_state = λ q a l. none_sure (t.next q a) (λ no. nn (λ w. no (w.no_state q a l)));
  no_action = λ q a l. none_sure (t.next q a) (λ no. nn (λ w. no (w.no_action q a l)));
  unmarked = λ q l. false_sure (t.marked q) (λ no. nn (λ w. no (w.unmarked q l)));
}

edge_dec : (m : Model) (e : Edge) → Dec (HasEdge m e)
edge_dec m e = go (seek e.from (λ x. (x.action ≡ e.action) × (x.state ≡ e.to)) (λ x. both (ℕ_discrete x.action e.action) (ℕ_discrete x.state e.to)) (edges_of m))
  where
    go : ((x : Step) × HasEdge m (edge e.from x) × ((x.action ≡ e.action) × (x.state ≡ e.to))) ⊎ ((x : Step) → HasEdge m (edge e.from x) → (x.action ≡ e.action) × (x.state ≡ e.to) → ⊥) → Dec (HasEdge m e)
    go (inl (x, h, (a, b))) = yes (subst (λ k. HasEdge m (record { from = e.from; action = k; to = e.to })) a (subst (λ k. HasEdge m (record { from = e.from; action = x.action; to = k })) b h))
    go (inr none) = no (λ h. none (record { action = e.action; state = e.to }) h (refl, refl))

-- what the ghost field of a search keeps
pub charted_sure : (m : Model) (t : Table) (charts : Charts) → ∥ Charted m t charts ∥₁ → Charted m t charts
charted_sure m t charts there =
    let nn = not_there there in
    record {
      small = sure (dec_le t.states 32) (λ no. nn (λ k. no k.small));
      whole = complete_sure m.actions t (λ no. nn (λ k. no k.whole));
      into = λ x. (
        λ h. sure (edge_dec m (record { from = x.2; action = x.0; to = x.1 })) (λ no. nn (λ k. no ((k.into x).0 h))),
        λ h. sure (holds_dec charts.into.rows x) (λ no. nn (λ k. no ((k.into x).1 h))),
      );
      out = λ x. (
        λ h. sure (edge_dec m (record { from = x.1; action = x.0; to = x.2 })) (λ no. nn (λ k. no ((k.out x).0 h))),
        λ h. sure (holds_dec charts.out.rows x) (λ no. nn (λ k. no ((k.out x).1 h))),
      );
      back = λ x. (
        λ h. sure (back_dec m.actions t x) (λ no. nn (λ k. no ((k.back x).0 h))),
        λ h. sure (holds_dec charts.back.rows x) (λ no. nn (λ k. no ((k.back x).1 h))),
      );
    }
