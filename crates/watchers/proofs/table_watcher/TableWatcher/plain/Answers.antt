use Rattle.std.proofs.Common.{rules, ◌<◌, false, sym, subst, arith}
use Rattle.model.proofs.Tables.{get_d_copies, get_row_copies, row_length}
use Rattle.watchers.proofs.table_watcher.TableWatcher.plain.Goals as goal

pub invariant_of-result-clause-all_actions : goal.invariant_of-result-clause-all_actions
invariant_of-result-clause-all_actions c = row_length 32 16 0

pub invariant_of-result-clause-inside : goal.invariant_of-result-clause-inside
invariant_of-result-clause-inside c =
    let some : 0 < c.get.result = omega (arith, c.get.ensures, c.args.states.some) in
    λ q a. subst (λ n. n < c.get.result) (sym (get_row_copies 32 16 0 q a)) some

pub returns : goal.returns
returns c = record {
  states_are = search rules;
  actions_are = search rules;
  leads = get_row_copies 32 16 0;
  unmarked = λ q. get_d_copies 32 false q;
}
