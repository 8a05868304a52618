use Rattle.std.proofs.Common.{◌-◌, ◌<◌, ◌≤◌, sym, subst, arith}
use Rattle.std.proofs.lemmas.Nat.{one_shl}
use Rattle.model.specs.Sets.{Bit}
use Rattle.model.specs.Relations.{Exactly}
use Rattle.model.proofs.Bits.{ones_exact}
use Rattle.model.proofs.number_set.NumberSet.below.Goals as goal

pub returns-then-n-lt32 : goal.returns-then-n-lt32
returns-then-n-lt32 c =
    let l : c.args.n < 32 = c.if-n-lt32.true in
    subst (λ m. Exactly (Bit (m - 1)) (λ t. (t < c.args.n) × (t < 32))) (sym (one_shl c.args.n 32 l))
    (λ t. let e = ones_exact c.args.n t in (λ h. let k = e.0 h in (k, omega arith), λ m. e.1 m.0))

pub returns-else-n-lt32 : goal.returns-else-n-lt32
returns-else-n-lt32 c =
    let l : 32 ≤ c.args.n = c.if-n-lt32.false in
    λ t. let e = ones_exact 32 t in (λ h. let k = e.0 h in (omega arith, k), λ m. e.1 m.1)
