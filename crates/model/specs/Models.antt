-- A model as a reader sees it: its edges, and the propositions of its states.
use Rattle.std.specs.Prelude.{ℕ, List, slice_index_or}
use Rattle.model.specs.declared.edge.Edge.{Edge}
use Rattle.model.specs.declared.number_set.NumberSet.{NumberSet}
use Rattle.model.specs.declared.state_record.StateRecord.{StateRecord}
use Rattle.model.specs.declared.model.Model.{Model}
use Rattle.model.specs.Relations.{Among}
use Rattle.model.specs.Sets.{Has, nothing}
use Rattle.model.specs.RecordSets.{records_of}

-- the edges, in the order in which they were added
abbrev pub edges_of : Model → List Edge
edges_of m = records_of m.edges

abbrev pub HasEdge : Model → Edge → Type 0
HasEdge m e = Among e (edges_of m)

abbrev pub blank : StateRecord
blank = record { propositions = nothing }

-- the propositions of state s
abbrev pub propositions_of : Model → ℕ → NumberSet
propositions_of m s = (slice_index_or m.records s blank).propositions

-- proposition p holds at state s
abbrev pub Labelled : Model → ℕ → ℕ → Type 0
Labelled m s p = Has (propositions_of m s) p
