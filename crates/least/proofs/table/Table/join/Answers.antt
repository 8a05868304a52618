use Rattle.std.proofs.Common.{ℕ, refl, arith}
use Rattle.least.proofs.Runs.{lowers_like, sum_like}
use Rattle.least.proofs.table.Table.join.Goals as goal

pub returns : goal.returns
returns c =
    let like = λ (n : ℕ). sum_like c.args.left c.args.right c.args.self.now _ _ n refl refl (omega arith) (omega arith) in
    lowers_like _ (λ n. (like n).0) (λ n. (like n).1) c.lower.ensures
