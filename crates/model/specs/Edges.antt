-- Edges, and lists of them.
use Rattle.std.specs.Prelude.{ℕ, ◌<◌, List}
use Rattle.model.specs.declared.edge.Edge.{Edge}
use Rattle.model.specs.Relations.{Among}

-- an edge names states and an action that are there
abbrev pub Inside : ℕ → ℕ → Edge → Type 0
Inside states actions e = (e.from < states) × (e.action < actions) × (e.to < states)

-- what stands at a place that is not in use
abbrev pub no_edge : Edge
no_edge = record { from = 0; action = 0; to = 0 }

-- the edges of a list are inside
abbrev pub AllInside : ℕ → ℕ → List Edge → Type 0
AllInside states actions es = (e : Edge) → Among e es → Inside states actions e
