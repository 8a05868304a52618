-- A search as its contracts see it: what it goes by, and what a call does to it.
use Rattle.std.specs.Prelude.{◌≡◌, ℕ, ◌<◌}
use Rattle.model.specs.declared.model.Model.{Model}
use Rattle.model.specs.Sets.{Has}
use Rattle.language.specs.declared.alphabet.Alphabet.{Ghosts as Alphabets}
use Rattle.language.specs.declared.watcher.Watcher.{Ghosts as Watchers}
use Rattle.language.specs.Tables.{Table}
use Rattle.positions.specs.declared.position.Position.{Position}
use Rattle.positions.specs.declared.search.Search.{Search}
use Rattle.positions.specs.declared.setting.Setting.{Setting}
use Rattle.positions.specs.Searches.{Laid, Looked}

-- the table of the watcher
abbrev pub table_of : {W : Type 0} {w : Watchers W} {a : Alphabets W} → Setting W w a → Table
table_of {w = w} s = w.table s.watched.watcher.now

-- the model
abbrev pub model_of : {W : Type 0} {w : Watchers W} {a : Alphabets W} → Setting W w a → Model
model_of s = s.watched.model.now

-- the position has a state of the model and one of the watcher
abbrev pub IsInside : {W : Type 0} {w : Watchers W} {a : Alphabets W} → Setting W w a → Position → Type 0
IsInside s x = (x.state < (model_of s).states) × (x.watch < (table_of s).states)

-- the positions D are found and laid on the pile
pub record Finds {W : Type 0} {w : Watchers W} {a : Alphabets W} (D : ℕ × ℕ → Type 0) (old new : Search W w a) : Type 0 where
  pub same : new.setting ≡ old.setting
  pub laid : Laid old.found.rows old.pile new.found.rows new.pile D

-- the positions V have been looked at
pub record Looks {W : Type 0} {w : Watchers W} {a : Alphabets W} (V : ℕ × ℕ → Type 0) (old new : Search W w a) : Type 0 where
  pub same : new.setting ≡ old.setting
  pub looked : Looked (model_of old.setting) (table_of old.setting) (Has old.setting.freeing) V old.found.rows old.pile new.found.rows new.pile

-- nothing but the progress has changed
pub record IsSettled {W : Type 0} {w : Watchers W} {a : Alphabets W} (old new : Search W w a) : Type 0 where
  pub same : new.setting ≡ old.setting
  pub found : new.found ≡ old.found
  pub pile : new.pile ≡ old.pile
