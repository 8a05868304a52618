use Rattle.std.proofs.Common.{ℕ, refl, arith}
use Rattle.least.proofs.Runs.{lowers_like, lift_like}
use Rattle.least.proofs.table.Table.lift.Goals as goal

pub returns : goal.returns
returns c =
    let like = λ (n : ℕ). lift_like c.args.part c.args.more c.args.self.now _ n refl (omega arith) in
    lowers_like _ (λ n. (like n).0) (λ n. (like n).1) c.lower.ensures
