use Rattle.std.proofs.Common.{sym, subst}
use Rattle.model.specs.Relations.{Joined}
use Rattle.language.specs.Rules.{head_of}
use Rattle.until.specs.Consequences.{GivesAlone, ByEdge}
use Rattle.triples.specs.Triples.{Holds}
use Rattle.until.proofs.rule_steps.add_alone.Goals as goal

pub returns-in-Letter : goal.returns-in-Letter
returns-in-Letter c =
    let before = Holds c.args.found.now.rows in
    let after = Holds c.add_led.new.found.rows in
    subst (λ r. Joined before after (GivesAlone c.args.guarded.now r)) (sym c.in-Letter.is)
    (subst (λ r. Joined before after (ByEdge c.args.guarded.now (head_of r) r (Holds c.args.rests.now.rows))) c.in-Letter.is c.add_led.ensures)
