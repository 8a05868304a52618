use Rattle.std.proofs.Common.{sym, ◌∙◌, subst}
use Rattle.least.specs.Entries.{Closed}
use Rattle.least.proofs.Runs.{run_both}
use Rattle.least.proofs.Turns.{shut_closed}
use Rattle.path.proofs.Nearest.{starts_by, sweeps_by}
use Rattle.path.proofs.search.settle.Goals as goal

pub loop-band-preserved : goal.loop-band-preserved
loop-band-preserved g c =
    let both = run_both (g.L.UntilLanguage.rules c.args.language.now) (starts_by c.rules.ensures.rules c.start-first.ensures) (sweeps_by c.rules-in-loop-band.ensures.rules c.sweep-second.ensures) in
    record { same = both.same ∙ c.loop-band.invariant.same; sound = λ s. both.sound (c.loop-band.invariant.sound s) }

pub returns-then-not-first-second : goal.returns-then-not-first-second
returns-then-not-first-second g c =
    let rules = g.L.UntilLanguage.rules c.args.language.now in
    let both = run_both rules (starts_by c.rules.ensures.rules c.start-first.ensures) (sweeps_by c.rules-in-loop-band.ensures.rules c.sweep-second.ensures) in
    let st = both.still c.if-not-first-second.true in
    record {
      same = both.same ∙ c.loop-band.invariant.same;
      sound = λ s. both.sound (c.loop-band.invariant.sound s);
      closed = subst (Closed rules c.args.top) (sym st.0) (shut_closed rules _ _ st.1.0 st.1.1);
    }
