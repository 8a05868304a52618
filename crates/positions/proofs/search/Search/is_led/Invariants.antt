use Rattle.std.proofs.Common.{◌≡◌, ℕ, ◌<◌}
use Rattle.positions.specs.Pairs.{pair}
use Rattle.positions.specs.Searches.{LedBy}
use Rattle.positions.specs.Looking.{table_of}
use Rattle.positions.proofs.search.Search.is_led.Given as goal

abbrev pub invariant-loop-action : goal.invariant-loop-action
invariant-loop-action g l = record {
  same : l.self ≡ l.fn.self;
  led : (a : ℕ) → a < l.action → LedBy l.fn.self.setting.watched.model.now (table_of l.fn.self.setting) l.fn.self.found.rows (pair l.position) a;
}
