use Rattle.std.proofs.Common.{sym, refl, subst}
use borrow.Author.Tests.{clash}
use Rattle.model.specs.Sets.{Has}
use Rattle.positions.specs.Pairs.{pair}
use Rattle.positions.specs.Looking.{table_of, IsInside}
use Rattle.positions.proofs.Lookings.{looked_unled, looked_led}
use Rattle.positions.proofs.Turns.{charted, settled_looks, settled_finds}
use Rattle.positions.proofs.search.Search.visit.Goals as goal

pub is_led-requires : goal.is_led-requires
is_led-requires g c = ((c.args.self.now.setting.watched.model.now.inside _ c.requires.leaves.1).0, c.requires.watch)

pub doom-requires-clause-inside : goal.doom-requires-clause-inside
doom-requires-clause-inside g c = subst (λ s. IsInside s c.args.position) (sym c.is_led.ensures.settled.same) ((c.args.self.now.setting.watched.model.now.inside _ c.requires.leaves.1).0, c.requires.watch)

pub returns-then-is_led : goal.returns-then-is_led
returns-then-is_led g c =
    let s = c.args.self.now.setting in
    let leaves = c.requires.leaves in
    let f = settled_finds c.args.self.now c.is_led.new.self c.doom.new.self c.is_led.ensures.settled c.doom.ensures in
    record {
      same = f.same;
      looked = looked_led s.watched.model.now (table_of s) (Has s.freeing) (pair c.args.position) (charted s).small (s.watched.model.now.inside _ leaves.1).0 c.requires.watch (λ h. clash (c.if-has.ensures.1 h)) leaves (c.if-is_led.ensures.led.0 refl) f.laid;
    }

pub returns-else-is_led : goal.returns-else-is_led
returns-else-is_led g c =
    let s = c.args.self.now.setting in
    settled_looks c.args.self.now c.is_led.new.self c.is_led.ensures.settled (record { same = refl; looked = looked_unled s.watched.model.now (table_of s) (Has s.freeing) (pair c.args.position) (λ l. clash (c.if-is_led.ensures.led.1 l)) })
