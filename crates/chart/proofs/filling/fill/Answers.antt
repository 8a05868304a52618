use Rattle.std.proofs.Common.{subst, ⊎_elim}
use Rattle.std.proofs.lemmas.Bool.Decides.{when_true, when_false}
use Rattle.model.specs.Relations.{Triple}
use Rattle.triples.specs.Triples.{Holds}
use Rattle.triples.proofs.TripleRooms.{grown_less}
use Rattle.chart.specs.Charts.{ByRules}
use Rattle.chart.proofs.Stretches.{round_derived, shut_all}
use Rattle.chart.proofs.filling.fill.Goals as goal

pub returns-then-same : goal.returns-then-same
returns-then-same g c p =
    let w = c.args.word.now in
    let rules = g.L.UntilLanguage.rules c.args.language.now in
    let facts : Triple → Type 0 = Holds c.loop-next.chart.rows in
    let same = when_true _ _ c.if-same.true c.same.ensures in
    let quiet : (q : Triple) → ByRules w rules facts q → facts q = λ q b. subst (λ rows. Holds rows q) same (c.round-next.ensures.puts q b) in
    (c.loop-next.invariant p, shut_all w rules facts quiet p)

pub loop-next-smaller : goal.loop-next-smaller
loop-next-smaller g c =
    let old = c.loop-next.chart in
    let new = c.round-next.result in
    grown_less old.rows new.rows old.long new.long c.round-next.ensures.keeps (when_false _ _ c.if-same.false c.same.ensures)

pub loop-next-preserved : goal.loop-next-preserved
loop-next-preserved g c p h =
    let rules = g.L.UntilLanguage.rules c.args.language.now in
    let found = c.loop-next.invariant in
    ⊎_elim (found p) (round_derived c.args.word.now rules (Holds c.loop-next.chart.rows) found p) (c.round-next.ensures.only p h)
