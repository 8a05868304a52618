-- Where facts lie in a table, at n states: for each symbol and from-state an entry for each to-state.
use Rattle.std.specs.Prelude.{ℕ, ◌+◌, ◌*◌, ◌/◌, ◌%◌}
use Rattle.model.specs.Relations.{Triple}

-- the place of a fact
abbrev pub place : ℕ → Triple → ℕ
place n p = (p.0 * n + p.1) * n + p.2

-- the fact that place k speaks of
abbrev pub spot : ℕ → ℕ → Triple
spot n k = (k / n / n, k / n % n, k % n)
