-- The pairs that a search begins with: those that are bad.
use Rattle.std.specs.Prelude.{◌≡◌, ℕ, ◌<◌, true}
use Rattle.model.specs.Relations.{Exactly}
use Rattle.language.specs.declared.alphabet.Alphabet.{Ghosts as Alphabets}
use Rattle.language.specs.declared.watcher.Watcher.{Ghosts as Watchers}
use Rattle.language.specs.Tables.{Table}
use Rattle.pile.specs.Items.{items}
use Rattle.positions.specs.declared.search.Search.{Search}
use Rattle.positions.specs.Pairs.{Holds}
use Rattle.positions.specs.Searches.{On}
use Rattle.positions.specs.Looking.{table_of}

-- the bad pairs with the watcher below n, where the states are given
abbrev pub BadBelow : Table → ℕ → (ℕ → Type 0) → ℕ × ℕ → Type 0
BadBelow t n unkept p = (p.1 < n) × (t.marked p.1 ≡ true) × unkept p.0

-- the bad pairs with the watcher below n are found, and all of them wait
pub record Begun {W : Type 0} {w : Watchers W} {a : Alphabets W} (unkept : ℕ → Type 0) (n : ℕ) (old new : Search W w a) : Type 0 where
  pub same : new.setting ≡ old.setting
  pub bad : Exactly (Holds new.found.rows) (BadBelow (table_of old.setting) n unkept)
  pub all : (p : ℕ × ℕ) → Holds new.found.rows p → On (items new.pile) p
