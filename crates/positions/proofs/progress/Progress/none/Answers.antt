use Rattle.model.proofs.Tables.{get_row_copies, row_length}
use Rattle.positions.proofs.progress.Progress.none.Goals as goal

pub invariant_of-result-clause-all_states : goal.invariant_of-result-clause-all_states
invariant_of-result-clause-all_states c = row_length 32 32 0

pub returns : goal.returns
returns c p = get_row_copies 32 32 0 p.1 p.0
