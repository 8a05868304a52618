use Rattle.std.proofs.Common.{rules, ℕ, ◌<◌, ◌≢◌}
use Rattle.model.specs.Sets.{nothing}
use Rattle.triples.specs.Triples.{row_of}
use Rattle.model.proofs.Passing.{passed_exactly}
use Rattle.triples.proofs.TripleRows.{first_decided}
use Rattle.triples.proofs.triple_set.TripleSet.firsts.Goals as goal

pub returns : goal.returns
returns c t =
    let e = passed_exactly c.passing.result (λ x. (s : ℕ) × (s < 32) × (row_of c.args.self.now.rows x s ≢ nothing)) c.passing.ensures.below c.passing.ensures.tested (λ x b l post. search (rules, first_decided)) t in
    ((λ h. let m = e.0 h in (m.0, m.1.0, m.1.1, m.1.2)), (λ m. e.1 (m.0, (m.1, m.2, m.3))))
