-- Pairs that are looked at, one after another.
use Rattle.std.proofs.Common.{◌≡◌, ℕ, ◌+◌, ◌<◌, ◌≤◌, ◌⊎◌, List, sym, refl, ◌∙◌, subst, inl, inr, ⊎_elim, arith}
use native.Mathlib.Decide.{dec_lt, ℕ_discrete}
use Rattle.model.specs.declared.number_set.NumberSet.{NumberSet}
use Rattle.model.specs.declared.model.Model.{Model}
use Rattle.model.specs.Relations.{Joined, Upto}
use Rattle.model.specs.Sets.{Has}
use Rattle.language.specs.Tables.{Table}
use Rattle.pile.specs.declared.base.Pile.{Pile}
use Rattle.walks.specs.Releases.{Forced}
use Rattle.positions.specs.declared.position.Position.{Position}
use Rattle.positions.specs.Pairs.{Holds}
use Rattle.positions.specs.Searches.{Done, Laid, Looked, Led, Leaves}
use Rattle.positions.proofs.Findings.{sound_add}

module _ (m : Model) (t : Table) (F : ℕ → Type 0) where
  -- nothing is found
  pub looked_same : {rows : List NumberSet} {pile : Pile Position} {V : ℕ × ℕ → Type 0} → ((p : ℕ × ℕ) → V p → Forced m t F (Done rows pile) p.0 p.1 → Holds rows p) → Looked m t F V rows pile rows pile
  looked_same here = record { keeps = λ p h. h; done = λ s q d. d; fits = omega arith; room = refl; sound = λ k s. s; looked = here }

  -- forced pairs are found
  pub looked_laid : {rows more : List NumberSet} {pile higher : Pile Position} {D : ℕ × ℕ → Type 0} → t.states ≤ 32
      → ((p : ℕ × ℕ) → D p → (p.0 < m.states) × (p.1 < t.states) × Forced m t F (λ u r. Holds rows (u, r)) p.0 p.1) → Laid rows pile more higher D → Looked m t F D rows pile more higher
  looked_laid {rows} {more} {pile} {higher} {D} small new l = record {
    keeps = l.found.keeps;
    done = λ s q d. (⊎_elim (λ o. o) (λ n. absurd (d.1 (l.laid.puts (s, q) n))) (l.found.only (s, q) d.0), λ o. d.1 (l.laid.keeps (s, q) o));
    fits = l.fits;
    room = l.room;
    sound = λ k s. sound_add m t F (Has k) small rows more D l.found (λ p d. let (a, b, f) = new p d in (a, b, inr f)) s;
    looked = λ p v f. l.found.puts p v;
  }

  -- one after another
  pub looked_both : {a b c : List NumberSet} {x y z : Pile Position} {V U : ℕ × ℕ → Type 0} → Looked m t F V a x b y → Looked m t F U b y c z → Looked m t F (λ p. V p ⊎ U p) a x c z
  looked_both {b = b} {c} {y = y} {z} {V} {U} l n = record {
    keeps = λ p h. n.keeps p (l.keeps p h);
    done = λ s q d. l.done s q (n.done s q d);
    fits = omega (arith, l.fits, n.fits);
    room = n.room ∙ l.room;
    sound = λ k s. n.sound k (l.sound k s);
    looked = λ p v f. ⊎_elim (λ old. n.keeps p (l.looked p old (f.0, f.1, λ e h. n.done _ _ (f.2 e h)))) (λ new. n.looked p new f) v;
  }

  -- fewer pairs, or the same in other words
  pub looked_like : {a b : List NumberSet} {x y : Pile Position} {V U : ℕ × ℕ → Type 0} → ((p : ℕ × ℕ) → U p → V p) → Looked m t F V a x b y → Looked m t F U a x b y
  looked_like to l = record { keeps = l.keeps; done = l.done; fits = l.fits; room = l.room; sound = l.sound; looked = λ p u f. l.looked p (to p u) f }

  -- the pairs of one step after another
  pub looked_more : {a b c : List NumberSet} {x y z : Pile Position} (V : ℕ → ℕ × ℕ → Type 0) (i : ℕ) → Looked m t F (Upto V i) a x b y → Looked m t F (V i) b y c z → Looked m t F (Upto V (i + 1)) a x c z
  looked_more V i l n = looked_like (λ p u. go p u (dec_lt u.0 i)) (looked_both l n)
    where
      go : (p : ℕ × ℕ) (u : Upto V (i + 1) p) → Dec (u.0 < i) → Upto V i p ⊎ V i p
      go p u (yes h) = inl (u.0, h, u.2)
      go p u (no h) = inr (let e : u.0 ≡ i = omega (arith, u.1) in subst (λ k. V k p) e u.2)

  -- the pairs of one number after another, as they are taken out of a set
  pub looked_taken : {a b c : List NumberSet} {x y z : Pile Position} (V : ℕ → ℕ × ℕ → Type 0) (all rest fewer : NumberSet) (n : ℕ) → Joined (Has fewer) (Has rest) (λ u. u ≡ n)
      → Looked m t F (λ p. (k : ℕ) × Has all k × (Has rest k → ⊥) × V k p) a x b y → Looked m t F (V n) b y c z → Looked m t F (λ p. (k : ℕ) × Has all k × (Has fewer k → ⊥) × V k p) a x c z
  looked_taken V all rest fewer n j l s = looked_like (λ p u. go p u (ℕ_discrete u.0 n)) (looked_both l s)
    where
      go : (p : ℕ × ℕ) (u : (k : ℕ) × Has all k × (Has fewer k → ⊥) × V k p) → Dec (u.0 ≡ n) → ((k : ℕ) × Has all k × (Has rest k → ⊥) × V k p) ⊎ V n p
      go p (k, h, gone, v) (yes e) = inr (subst (λ i. V i p) e v)
      go p (k, h, gone, v) (no ne) = inl (k, h, (λ r. ⊎_elim gone ne (j.only k r)), v)

  -- one pair that is not led to what is found, and one that is
  module _ (x : ℕ × ℕ) where
    pub looked_unled : {rows : List NumberSet} {pile : Pile Position} → (Led m t rows x → ⊥) → Looked m t F (λ p. p ≡ x) rows pile rows pile
    looked_unled {rows} un = looked_same (λ p e d. absurd (un (subst (Led m t rows) e (λ y h. (d.2 y h).0))))

    pub looked_led : {rows more : List NumberSet} {pile higher : Pile Position} → t.states ≤ 32 → x.0 < m.states → x.1 < t.states → (F x.0 → ⊥) → Leaves m x.0 → Led m t rows x
        → Laid rows pile more higher (λ p. p ≡ x) → Looked m t F (λ p. p ≡ x) rows pile more higher
    looked_led {rows} small a b nf out led l =
        looked_laid small (λ p e. subst (λ z. (z.0 < m.states) × (z.1 < t.states) × Forced m t F (λ u r. Holds rows (u, r)) z.0 z.1) (sym e) (a, b, (nf, out, led))) l
