use Rattle.std.proofs.Common.{◌≡◌, ◌-◌, ◌<◌, take, sym, refl, ap, ◌∙◌, subst, arith}
use Rattle.std.proofs.lemmas.Result.{err_from_is_err_and}
use Rattle.model.specs.Sets.{Has}
use Rattle.language.specs.Derivations.{Derives}
use Rattle.language.specs.Rules.{RulesWithin}
use Rattle.logic.specs.Facts.{Ground}
use Rattle.logic.proofs.GuardedPaths.{guarded_good}
use Rattle.least.specs.Entries.{ground_of}
use Rattle.least.specs.declared.scope.Scope.{Scope}
use Rattle.path.specs.Witnesses.{GoodFor}
use Rattle.path.proofs.Nearest.{far_long, near_least}
use Rattle.path.proofs.search.shortest.Goals as goal

pub returns-in_err-to : goal.returns-in_err-to
returns-in_err-to g c =
    let rules = g.L.UntilLanguage.rules c.args.language.now in
    let w = c.sought.new.table in
    let scope = c.sought.ensures.same ∙ c.empty-table.ensures.scope in
    let e : ground_of w.scope ≡ c.args.ground.now = ap ground_of scope ∙ c.new-scope.ensures.ground in
    let symbols : w.scope.symbols ≡ g.L.UntilLanguage.symbols c.args.language.now = ap (λ (z : Scope). z.symbols) scope ∙ c.new-scope.ensures.symbols ∙ c.symbols.ensures.count in
    let limits = c.symbols.ensures.limits in
    let in_rules = subst (λ k. RulesWithin k rules) (sym symbols) (g.met.L.UntilLanguage.symbols_known _ limits.few_symbols limits.few_rules) in
    let inside : c.args.aim.state < w.scope.states = omega (arith, w.scope.its_states, ap (λ (h : Ground). h.model.states) e, c.requires.state) in
    let p = err_from_is_err_and c.from_residual.result c.from_residual.ensures.1 in
    let (is, closed, far) = c.in_err-to.ensures.found in rw (p.1, p.2) (
      is,
      ((c.requires.marks _).0 (c.if-not-has.ensures.0 refl)).1,
      (λ p good. omega (arith, c.min.ensures, far_long rules w in_rules c.args.aim.goal c.args.aim.state _ inside closed far p (subst (λ (h : Ground). GoodFor h.model h.guard c.args.aim.goal rules c.args.aim.state p) (sym e) good))),
      refl,
    )

pub returns : goal.returns
returns g c =
    let rules = g.L.UntilLanguage.rules c.args.language.now in
    let w = c.sought.new.table in
    let scope = c.sought.ensures.same ∙ c.empty-table.ensures.scope in
    let e : ground_of w.scope ≡ c.args.ground.now = ap ground_of scope ∙ c.new-scope.ensures.ground in
    let symbols : w.scope.symbols ≡ g.L.UntilLanguage.symbols c.args.language.now = ap (λ (z : Scope). z.symbols) scope ∙ c.new-scope.ensures.symbols ∙ c.symbols.ensures.count in
    let limits = c.symbols.ensures.limits in
    let in_rules = subst (λ k. RulesWithin k rules) (sym symbols) (g.met.L.UntilLanguage.symbols_known _ limits.few_symbols limits.few_rules) in
    let inside : c.args.aim.state < w.scope.states = omega (arith, w.scope.its_states, ap (λ (h : Ground). h.model.states) e, c.requires.state) in
    let (level, low, closed, near) = c.in_ok-to.ensures.found in
    let count = c.entry.result - 1 in (
      omega (arith, c.entry.ensures, near.low, low, c.min.ensures),
      subst (λ (h : Ground). GoodFor h.model h.guard c.args.aim.goal rules c.args.aim.state (take count c.unfold.new.steps)) e
          (guarded_good (ground_of w.scope) (Has c.args.aim.goal) (Derives rules 0) c.args.aim.state c.in_ok-to.to (take count c.unfold.new.steps) c.unfold.ensures.guarded near.ends c.unfold.ensures.derived),
      (λ p good. omega (arith, c.entry.ensures, near_least rules w in_rules c.args.aim.goal c.args.aim.state level inside closed c.in_ok-to.to near p (subst (λ (h : Ground). GoodFor h.model h.guard c.args.aim.goal rules c.args.aim.state p) (sym e) good))),
      c.unfold.ensures.others,
      c.unfold.auto.steps,
    )
