-- The first pairs, one watcher state after another.
use Rattle.std.proofs.Common.{◌≡◌, ℕ, ◌+◌, ◌<◌, true, ◌∙◌, sym, subst, ⊎_elim, arith}
use native.Mathlib.Decide.{ℕ_discrete}
use Rattle.language.specs.declared.alphabet.Alphabet.{Ghosts as Alphabets}
use Rattle.language.specs.declared.watcher.Watcher.{Ghosts as Watchers}
use Rattle.positions.specs.declared.search.Search.{Search}
use Rattle.positions.specs.Pairs.{Holds, InRow}
use Rattle.positions.specs.Looking.{table_of, Finds}
use Rattle.positions.specs.Beginnings.{BadBelow, Begun}

module _ {W : Type 0} {w : Watchers W} {a : Alphabets W} (unkept : ℕ → Type 0) (x : Search W w a) where
  pub begun_not : (n : ℕ) (y : Search W w a) → ((table_of x.setting).marked n ≡ true → ⊥) → Begun unkept n x y → Begun unkept (n + 1) x y
  begun_not n y un b = record { same = b.same; bad = λ p. (λ h. let k = (b.bad p).0 h in (omega (arith, k.0), k.1, k.2), λ k. (b.bad p).1 (go p k (ℕ_discrete p.1 n), k.1, k.2)); all = b.all }
    where
      go : (p : ℕ × ℕ) → BadBelow (table_of x.setting) (n + 1) unkept p → Dec (p.1 ≡ n) → p.1 < n
      go p k (yes e) = absurd (un (subst (λ q. (table_of x.setting).marked q ≡ true) e k.1))
      go p k (no ne) = omega (arith, k.0)

  pub begun_here : (n : ℕ) (y z : Search W w a) → (table_of x.setting).marked n ≡ true → Begun unkept n x y → Finds (InRow n unkept) y z → Begun unkept (n + 1) x z
  begun_here n y z marked b f = record {
    same = f.same ∙ b.same;
    bad = λ p. (λ h. ⊎_elim (old p) (new p) (f.laid.found.only p h), λ k. go p k (ℕ_discrete p.1 n));
    all = λ p h. ⊎_elim (λ o. f.laid.laid.keeps p (b.all p o)) (f.laid.laid.puts p) (f.laid.found.only p h);
  }
    where
      old : (p : ℕ × ℕ) → Holds y.found.rows p → BadBelow (table_of x.setting) (n + 1) unkept p
      old p h = let k = (b.bad p).0 h in (omega (arith, k.0), k.1, k.2)

      new : (p : ℕ × ℕ) → InRow n unkept p → BadBelow (table_of x.setting) (n + 1) unkept p
      new p i = (omega (arith, i.0), subst (λ q. (table_of x.setting).marked q ≡ true) (sym i.0) marked, i.1)

      go : (p : ℕ × ℕ) → BadBelow (table_of x.setting) (n + 1) unkept p → Dec (p.1 ≡ n) → Holds z.found.rows p
      go p k (yes e) = f.laid.found.puts p (e, k.2)
      go p k (no ne) = f.laid.found.keeps p ((b.bad p).1 (omega (arith, k.0), k.1, k.2))
