use Rattle.std.proofs.Common.{rules, ℕ, ◌<◌, arith}
use Rattle.model.specs.Sets.{Has}
use Rattle.triples.specs.Triples.{Holds}
use Rattle.model.proofs.Passing.{passed_exactly}
use Rattle.until.proofs.Rows.{met_decided}
use Rattle.until.proofs.marking.reaching.Goals as goal

pub returns : goal.returns
returns c s =
    let e = passed_exactly c.passing.result (λ s. (t : ℕ) × Holds c.args.table.now.rows (0, s, t) × Has c.args.goal t) c.passing.ensures.below c.passing.ensures.tested (λ s b l post. let small : s < 32 = omega arith in search (rules, met_decided)) s in
    ((λ h. let m = e.0 h in (m.0, m.1.0, m.1.1, m.1.2)), (λ m. e.1 (m.0, (m.1, m.2, m.3))))
