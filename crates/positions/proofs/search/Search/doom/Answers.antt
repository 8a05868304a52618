use Rattle.std.proofs.Common.{◌<◌, sym, refl, subst}
use Rattle.positions.specs.Looking.{table_of}
use Rattle.positions.proofs.Findings.{laid_pushed, roomy_laid}
use Rattle.positions.proofs.Leadings.{noted_keeps}
use Rattle.positions.proofs.Turns.{charted}
use Rattle.positions.proofs.search.Search.doom.Goals as goal

pub invariant_of-self : goal.invariant_of-self
invariant_of-self g c =
    let s = c.args.self.now in
    let t = table_of s.setting in
    let laid = laid_pushed s.setting.watched.model.now t.states c.args.position c.push.result s.found.all_rows (charted s.setting).small s.roomy c.requires.inside c.requires.new c.add.ensures c.push.ensures.cause c.push.ensures.items c.push.ensures.room in
    record {
      noted = noted_keeps s.setting.watched.model.now t s.found.rows c.add.new.self.rows s.progress.actions c.add.ensures.keeps s.noted;
      roomy = roomy_laid s.setting.watched.model.now t.states (λ p e. subst (λ z. (z.0 < s.setting.watched.model.now.states) × (z.1 < t.states)) (sym e) c.requires.inside) s.roomy laid;
    }

pub returns : goal.returns
returns g c =
    let s = c.args.self.now in
    record {
      same = refl;
      laid = laid_pushed s.setting.watched.model.now (table_of s.setting).states c.args.position c.push.result s.found.all_rows (charted s.setting).small s.roomy c.requires.inside c.requires.new c.add.ensures c.push.ensures.cause c.push.ensures.items c.push.ensures.room;
    }
