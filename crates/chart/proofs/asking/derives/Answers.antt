use Rattle.std.proofs.Common.{length, sym, subst, arith}
use Rattle.model.specs.Sets.{Has}
use Rattle.language.proofs.Heights.{derives_known}
use Rattle.chart.proofs.Stretches.{whole_derived, derived_whole}
use Rattle.chart.proofs.asking.derives.Goals as goal

pub returns-clause-right : goal.returns-clause-right
returns-clause-right g c =
    let w = c.args.word.now in
    let rules = g.L.UntilLanguage.rules c.args.language.now in
    let fitting = c.in_ok-language.ensures in
    let words = rw fitting.same at (fitting.derived w) in
    let facts = rw fitting.same at (c.fill-chart.ensures (0, 0, length w)) in (
      (λ is. words.1 (derived_whole w rules (facts.0 (omega arith, subst (λ x. Has x (length w)) c.row.ensures (c.has.ensures.0 is))))),
      (λ m. c.has.ensures.1 (subst (λ x. Has x (length w)) (sym c.row.ensures) (facts.1 (whole_derived w rules (words.0 m))).1)),
    )

pub returns-clause-known : goal.returns-clause-known
returns-clause-known g c =
    let l = c.args.language.now in
    let w = c.args.word.now in
    let rules = g.L.UntilLanguage.rules l in
    let fitting = c.in_ok-language.ensures in
    let limits = rw fitting.same at fitting.limits in
    let facts = rw fitting.same at (c.fill-chart.ensures (0, 0, length w)) in
    λ is. derives_known (g.L.Alphabet.known l) rules (g.met.L.UntilLanguage.actions_known l limits.few_symbols limits.few_rules) 0 w
    (derived_whole w rules (facts.0 (omega arith, subst (λ x. Has x (length w)) c.row.ensures (c.has.ensures.0 (cc)))))
