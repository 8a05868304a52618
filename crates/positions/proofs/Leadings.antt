-- Where the edges from a pair lead.
use Rattle.std.proofs.Common.{◌≡◌, ℕ, ◌<◌, List, [], ◌∙◌, length, get_or, set, sym, ap, subst, arith}
use native.Mathlib.Decide.{ℕ_discrete}
use Rattle.std.proofs.lemmas.List.{get_or-set_same, get_or-set_other}
use Rattle.model.specs.declared.number_set.NumberSet.{NumberSet}
use Rattle.model.specs.declared.model.Model.{Model}
use Rattle.model.specs.Relations.{Exactly}
use Rattle.model.specs.Sets.{Has, nothing}
use Rattle.triples.specs.Triples.{row_of}
use Rattle.model.proofs.Bits.{has_none}
use Rattle.language.specs.Tables.{Table, step}
use Rattle.logic.specs.Paths.{edge}
use Rattle.charts.proofs.Sure.{sure}
use Rattle.positions.specs.Pairs.{Holds}
use Rattle.charts.specs.declared.charts.Charts.{Charts}
use Rattle.charts.specs.Arrows.{Into, Out, Back, Charted}
use Rattle.positions.specs.Searches.{Led, LedBy, Noted, noted_at, noting}
use Rattle.positions.proofs.Sizes.{holds_dec}
use Rattle.positions.proofs.Marks.{pair_is}

-- the test by sets
pub led_exact : (m : Model) (t : Table) (rows : List NumberSet) (p : ℕ × ℕ) (a n : ℕ) (ends row left : NumberSet) → n ≡ step t p.1 a → Exactly (Has ends) (λ u. Out m (a, p.0, u)) → row ≡ get_or rows n nothing
    → Exactly (Has left) (λ u. Has ends u × (Has row u → ⊥)) → (left ≡ nothing → LedBy m t rows p a) × (LedBy m t rows p a → (u : ℕ) → Has left u → ⊥)
led_exact m t rows p a n ends row left next ends_are row_is left_are = (to, from)
  where
    there : (u : ℕ) → Holds rows (u, step t p.1 a) → Has row u
    there u h = subst (λ (x : NumberSet). Has x u) (sym row_is) (subst (λ k. Has (get_or rows k nothing) u) (sym next) h)

    to : left ≡ nothing → LedBy m t rows p a
    to e u o = sure (holds_dec rows (u, step t p.1 a)) (λ n. has_none left u e ((left_are u).1 ((ends_are u).1 o, λ h. n (subst (λ k. Has (get_or rows k nothing) u) next (subst (λ (x : NumberSet). Has x u) row_is h)))))

    from : LedBy m t rows p a → (u : ℕ) → Has left u → ⊥
    from all u h = let (e, n) = (left_are u).0 h in n (there u (all u ((ends_are u).0 e)))

-- all the actions
pub led_all : (m : Model) (t : Table) (rows : List NumberSet) (p : ℕ × ℕ) → ((a : ℕ) → a < m.actions → LedBy m t rows p a) → Led m t rows p
led_all m t rows p each x e = each x.action (m.inside (edge p.0 x) e).1 x.state e

pub led_each : (m : Model) (t : Table) (rows : List NumberSet) (p : ℕ × ℕ) → Led m t rows p → (a : ℕ) → LedBy m t rows p a
led_each m t rows p all a u o = all (record { action = a; state = u }) o

module _ (m : Model) (t : Table) where
  -- what is found stays found
  pub noted_keeps : (rows more : List NumberSet) (actions : List (List ℕ)) → ((p : ℕ × ℕ) → Holds rows p → Holds more p) → Noted m t rows actions → Noted m t more actions
  noted_keeps rows more actions keeps noted p s a l u o = keeps (u, step t p.1 a) (noted p s a l u o)

  pub noted_more : (rows : List NumberSet) (actions : List (List ℕ)) (x : ℕ × ℕ) (n : ℕ) → x.1 < length actions → x.0 < length (get_or actions x.1 []) → ((a : ℕ) → a < n → LedBy m t rows x a) → Noted m t rows actions
      → Noted m t rows (noting actions x n)
  noted_more rows actions x n room space each noted p s' a l = go (ℕ_discrete p.1 x.1) (ℕ_discrete p.0 x.0)
    where
      row : p.1 ≡ x.1 → noted_at (noting actions x n) p ≡ get_or (set (get_or actions x.1 []) x.0 n) p.0 0
      row e = ap (λ q. get_or (get_or (set actions x.1 (set (get_or actions x.1 []) x.0 n)) q []) p.0 0) e ∙ ap (λ xs. get_or xs p.0 0) (get_or-set_same actions x.1 (set (get_or actions x.1 []) x.0 n) [] room)

      go : Dec (p.1 ≡ x.1) → Dec (p.0 ≡ x.0) → LedBy m t rows p a
      go (yes e) (yes f) =
          let is : p ≡ (x.0, x.1) = pair_is p x.0 x.1 f e in
          let l' : a < n = omega (arith, l, row e, ap (λ k. get_or (set (get_or actions x.1 []) x.0 n) k 0) f, get_or-set_same (get_or actions x.1 []) x.0 n 0 space) in
          subst (λ z. LedBy m t rows z a) (sym is) (each a l')
      go (yes e) (no nf) = noted p s' a (omega (arith, l, row e, get_or-set_other (get_or actions x.1 []) x.0 p.0 n 0 nf, ap (λ q. get_or (get_or actions q []) p.0 0) e))
      go (no ne) d = noted p s' a (omega (arith, l, ap (λ xs. get_or xs p.0 0) (get_or-set_other actions x.1 p.1 (set (get_or actions x.1 []) x.0 n) [] ne)))

-- the ends of the edges from a state by an action, and the starts of those into it
module _ (m : Model) (t : Table) (charts : Charts) (are : Charted m t charts) (a s : ℕ) (row : NumberSet) (small : s < 32) where
  pub out_row : row ≡ row_of charts.out.rows a s → Exactly (Has row) (λ u. Out m (a, s, u))
  out_row is u = (λ h. (are.out (a, s, u)).0 (small, subst (λ (x : NumberSet). Has x u) is h), λ o. subst (λ (x : NumberSet). Has x u) (sym is) ((are.out (a, s, u)).1 o).1)

  pub into_row : row ≡ row_of charts.into.rows a s → Exactly (Has row) (λ u. Into m (a, s, u))
  into_row is u = (λ h. (are.into (a, s, u)).0 (small, subst (λ (x : NumberSet). Has x u) is h), λ o. subst (λ (x : NumberSet). Has x u) (sym is) ((are.into (a, s, u)).1 o).1)

  pub back_row : row ≡ row_of charts.back.rows a s → Exactly (Has row) (λ u. Back m.actions t (a, s, u))
  back_row is u = (λ h. (are.back (a, s, u)).0 (small, subst (λ (x : NumberSet). Has x u) is h), λ o. subst (λ (x : NumberSet). Has x u) (sym is) ((are.back (a, s, u)).1 o).1)
