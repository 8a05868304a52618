use Rattle.std.proofs.Common.{◌≡◌, ℕ, ◌+◌, ◌<◌, Bool, true, false, ◌||◌, Decides, refl, subst, arith}
use mathlib.Core.Bool.{false≢true}
use native.Mathlib.Decide.{dec_lt}
use Rattle.least.proofs.table.Table.any_lower.Goals as goal

-- whether some place so far passes, and the next one too
one_more : (P : ℕ → Type 0) (n : ℕ) (a b : Bool) → Decides a ((k : ℕ) × (k < n) × P k) → Decides b (P n) → Decides (a || b) ((k : ℕ) × (k < n + 1) × P k)
one_more P n true b d e = let (k, l, p) = d.0 refl in (λ _. (k, omega arith, p), λ _. refl)
one_more P n false b d e = (
  λ y. (n, omega arith, e.0 y),
  λ (k, l, p). elim (dec_lt k n) [ yes m ↦ absurd (false≢true (d.1 (k, m, p))) | no m ↦ (let same : k ≡ n = omega arith in e.1 (subst P same p)) ],
)

pub loop-k-init : goal.loop-k-init
loop-k-init c = (λ e. absurd (false≢true e), λ (k, l, p). absurd (omega arith))

pub loop-k-preserved : goal.loop-k-preserved
loop-k-preserved c = one_more _ _ _ _ c.loop-k.invariant c.is_lower-lower.ensures

pub returns : goal.returns
returns c =
    let e : c.loop-k.k ≡ c.args.self.now.scope.states = omega (arith, c.loop-k-test.false, c.states-k-end.ensures) in
    rw (← e) c.loop-k.invariant
