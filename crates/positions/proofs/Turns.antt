-- What the calls of a search do, one after another.
use Rattle.std.proofs.Common.{◌≡◌, ℕ, ◌+◌, ◌<◌, ◌∙◌, sym, subst}
use Rattle.model.specs.declared.number_set.NumberSet.{NumberSet}
use Rattle.model.specs.Relations.{Joined, Upto}
use Rattle.model.specs.Sets.{Has}
use Rattle.language.specs.declared.alphabet.Alphabet.{Ghosts as Alphabets}
use Rattle.language.specs.declared.watcher.Watcher.{Ghosts as Watchers}
use Rattle.charts.specs.Arrows.{Charted}
use Rattle.charts.proofs.Sure.{charted_sure}
use Rattle.positions.specs.declared.search.Search.{Search}
use Rattle.positions.specs.declared.setting.Setting.{Setting}
use Rattle.positions.specs.Searches.{Laid, Looked}
use Rattle.positions.specs.Looking.{table_of, Finds, IsSettled, Looks}
use Rattle.positions.proofs.Findings.{Taken, taken_more}
use Rattle.positions.proofs.Lookings.{looked_like, looked_more, looked_taken}

module _ {W : Type 0} {w : Watchers W} {a : Alphabets W} where
  -- the charts of a search are right
  pub charted : (s : Setting W w a) → Charted s.watched.model.now (table_of s) s.charts
  charted s = charted_sure s.watched.model.now (table_of s) s.charts s.charted

  -- a later call, told by the setting of an earlier one
  earlier : {x y : Setting W w a} {V : ℕ × ℕ → Type 0} (old new : Search W w a) → x ≡ y
      → Looked x.watched.model.now (table_of x) (Has x.freeing) V old.found.rows old.pile new.found.rows new.pile → Looked y.watched.model.now (table_of y) (Has y.freeing) V old.found.rows old.pile new.found.rows new.pile
  earlier {V = V} old new is l = subst (λ s. Looked s.watched.model.now (table_of s) (Has s.freeing) V old.found.rows old.pile new.found.rows new.pile) is l

  module _ (x : Search W w a) where
    -- the same in other words
    pub looks_like : {V U : ℕ × ℕ → Type 0} (y : Search W w a) → ((p : ℕ × ℕ) → U p → V p) → Looks V x y → Looks U x y
    looks_like y to l = record { same = l.same; looked = looked_like _ _ _ to l.looked }

    -- one action more
    pub looks_more : (V : ℕ → ℕ × ℕ → Type 0) (i : ℕ) (y z : Search W w a) → Looks (Upto V i) x y → Looks (V i) y z → Looks (Upto V (i + 1)) x z
    looks_more V i y z l n = record { same = n.same ∙ l.same; looked = looked_more _ _ _ V i l.looked (earlier y z l.same n.looked) }

    -- one number more, taken out of a set
    pub looks_taken : (V : ℕ → ℕ × ℕ → Type 0) (all rest fewer : NumberSet) (n : ℕ) (y z : Search W w a) → Joined (Has fewer) (Has rest) (λ u. u ≡ n)
        → Looks (λ p. (k : ℕ) × Has all k × (Has rest k → ⊥) × V k p) x y → Looks (V n) y z → Looks (λ p. (k : ℕ) × Has all k × (Has fewer k → ⊥) × V k p) x z
    looks_taken V all rest fewer n y z j l s = record { same = s.same ∙ l.same; looked = looked_taken _ _ _ V all rest fewer n j l.looked (earlier y z l.same s.looked) }

    -- after a look that changed the progress alone
    pub settled_looks : {V : ℕ × ℕ → Type 0} (y : Search W w a) → IsSettled x y → Looks V x x → Looks V x y
    settled_looks {V} y s l = record {
      same = s.same;
      looked = subst (λ f. Looked x.setting.watched.model.now (table_of x.setting) (Has x.setting.freeing) V x.found.rows x.pile f.rows y.pile) (sym s.found)
          (subst (λ pile. Looked x.setting.watched.model.now (table_of x.setting) (Has x.setting.freeing) V x.found.rows x.pile x.found.rows pile) (sym s.pile) l.looked);
    }

    pub settled_finds : {D : ℕ × ℕ → Type 0} (y z : Search W w a) → IsSettled x y → Finds D y z → Finds D x z
    settled_finds {D} y z s f = record {
      same = f.same ∙ s.same;
      laid = subst (λ old. Laid old.rows x.pile z.found.rows z.pile D) s.found (subst (λ pile. Laid y.found.rows pile z.found.rows z.pile D) s.pile f.laid);
    }

    pub finds_taken : (watch : ℕ) (all rest fewer : NumberSet) (n : ℕ) (y z : Search W w a) → Joined (Has fewer) (Has rest) (λ u. u ≡ n) → ((u : ℕ) → Has fewer u → u < n) → ((s : ℕ) → Has rest s → Has all s)
        → Finds (Taken watch all rest) x y → Finds (λ p. p ≡ (n, watch)) y z → Finds (Taken watch all fewer) x z
    finds_taken watch all rest fewer n y z j gone sub f h = record { same = h.same ∙ f.same; laid = taken_more watch all rest fewer n j gone sub f.laid h.laid }
