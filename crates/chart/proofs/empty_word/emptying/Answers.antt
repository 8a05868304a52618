use Rattle.std.proofs.Common.{rules, []}
use Rattle.language.specs.Derivations.{Derives}
use Rattle.model.proofs.Passing.{passed_exactly}
use Rattle.chart.proofs.Stretches.{empty_decided}
use Rattle.chart.proofs.empty_word.emptying.Goals as goal

pub returns : goal.returns
returns g c =
    let given = g.L.UntilLanguage.rules c.args.language.now in
    passed_exactly c.passing.result (λ x. Derives given x []) c.passing.ensures.below c.passing.ensures.tested
    (λ x b l post. let decided = empty_decided given c.fill-chart.result.rows x c.fill-chart.ensures in search (rules, decided))
