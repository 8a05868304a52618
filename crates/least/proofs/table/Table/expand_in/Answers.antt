use Rattle.least.proofs.Runs.{run_like}
use Rattle.least.proofs.table.Table.expand_in.Goals as goal

pub returns : goal.returns
returns c rules r∈ = run_like _ _ (λ at _ _. at.0) (c.expand.ensures rules r∈)
