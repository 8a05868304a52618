use Rattle.std.proofs.Common.{rules, arith}
use Rattle.std.proofs.lemmas.Iterator.{YieldsList-from_range}
use Rattle.std.proofs.lemmas.Iterator.Consumers.{YieldsList-from_filter}
use Rattle.path.proofs.Choosing.{best_of, may_choose, near_test, dec_near, says_is}
use Rattle.path.proofs.search.nearest.Goals as goal

pub returns : goal.returns
returns c =
    let w = c.args.table.now in
    let aim = c.args.aim in
    best_of w aim.goal aim.state c.args.top w.scope.states _ _
    (YieldsList-from_filter _ (near_test w aim.goal aim.state c.args.top) (YieldsList-from_range 0 c.states.result w.scope.states c.filter.ensures.source (omega (arith, c.states.ensures))) c.filter.ensures.closure (λ x b q k. (search rules, says_is (dec_near w aim.goal aim.state c.args.top x) b (search rules))))
    (omega arith) (λ a r q k. search rules) (λ x k q d. search rules) c.min_by_key.result c.min_by_key.ensures.runs

pub min_by_key-requires-clause-callable : goal.min_by_key-requires-clause-callable
min_by_key-requires-clause-callable c =
    let w = c.args.table.now in
    let aim = c.args.aim in
    may_choose (near_test w aim.goal aim.state c.args.top) w.scope.states
    (YieldsList-from_filter _ (near_test w aim.goal aim.state c.args.top) (YieldsList-from_range 0 c.states.result w.scope.states c.filter.ensures.source (omega (arith, c.states.ensures))) c.filter.ensures.closure (λ x b q k. (search rules, says_is (dec_near w aim.goal aim.state c.args.top x) b (search rules))))
    _ _ (λ x k q d. search rules) (λ x l. search rules)
