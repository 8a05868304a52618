use Rattle.model.proofs.Bits.{shl_exact}
use Rattle.model.proofs.number_set.NumberSet.single.Goals as goal

pub returns-then-n-lt32 : goal.returns-then-n-lt32
returns-then-n-lt32 c t = let e = shl_exact c.args.n 32 c.if-n-lt32.true t in (λ h. (e.0 h, c.if-n-lt32.true), λ m. e.1 m.0)
