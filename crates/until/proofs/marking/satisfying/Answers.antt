use Rattle.until.proofs.Goals.{reach_exact, words_exact}
use Rattle.triples.specs.Triples.{Holds}
use Rattle.until.proofs.marking.satisfying.Goals as goal

pub returns : goal.returns
returns g c =
    let guarded = c.args.guarded.now in
    let l = c.args.language.now in
    let R = g.L.UntilLanguage.rules l in
    let derived = reach_exact guarded.model guarded.guard c.args.goal R (Holds c.fill-table.result.rows) c.reaching.result c.states.result c.states.ensures.count c.fill-table.ensures.facts c.reaching.ensures in
    record {
      derived = derived;
      words = words_exact guarded.model guarded.guard c.args.goal R (g.L.UntilLanguage.words l) c.reaching.result (λ w. (c.fill-table.ensures.derived w).0) (λ w. (c.fill-table.ensures.derived w).1) derived;
      others = c.fill-table.ensures.others;
    }
