-- Automata: their words, the rules that they tell, and what the calls do.
use Rattle.std.specs.Prelude.{◌≡◌, ℕ, ◌≤◌, Bool, true, false, ◌≢◌, ◌⊎◌, List, [], ◌∷◌, ◌++◌, map, length, Option, slice_index_or}
use Rattle.model.specs.Refusals.{Refuse, Accept}
use Rattle.model.specs.Relations.{Among}
use Rattle.model.specs.RecordSets.{records_of}
use Rattle.model.specs.Sizes.{Outside}
use Rattle.model.specs.declared.edge.Edge.{Edge}
use Rattle.language.specs.Words.{Word}
use Rattle.language.specs.declared.rule.Rule.{Rule}
use Rattle.language.specs.declared.rule.Rule.TheVariants.{Empty, Lead}
use Rattle.kinds.specs.Passing.{marked_below}
use Rattle.kinds.specs.declared.automaton.Automaton.{Automaton}

-- the edges, in the order in which they were added
abbrev pub edges_of : Automaton → List Edge
edges_of m = records_of m.edges

-- whether state q is final
abbrev pub final_at : Automaton → ℕ → Bool
final_at m q = slice_index_or m.finals q false

-- a run from state p over the word ends in state q
abbrev pub Runs : Automaton → ℕ → Word → ℕ → Type 0
Runs m p [] q = p ≡ q
Runs m p (a ∷ w) q = (r : ℕ) × Among (record { from = p; action = a; to = r }) (edges_of m) × Runs m r w q

-- the words over which some run from state 0 ends in a final state
abbrev pub AutomatonWords : Automaton → Word → Type 0
AutomatonWords m w = (q : ℕ) × Runs m 0 w q × (final_at m q ≡ true)

-- the final states, in rising order
abbrev pub finals_of : Automaton → List ℕ
finals_of m = marked_below m.finals m.states

-- what it tells: for each edge, its action leads from its first state to its second; each final state gives the empty word
unfoldable pub told : Automaton → List Rule
told m = map (λ e. Lead e.from e.action e.to) (edges_of m) ++ map (λ q. Empty q) (finals_of m)

-- of these sizes, with no edge and no final state
pub record NoEdges (n a : ℕ) (m : Automaton) : Type 0 where
  pub states_are : m.states ≡ n
  pub actions_are : m.actions ≡ a
  pub edges_empty : edges_of m ≡ []
  pub no_final : (q : ℕ) → final_at m q ≡ false

-- the automaton after is the one before with the edge at the end
pub record EdgeAdded (before after : Automaton) (e : Edge) : Type 0 where
  pub edges_are : edges_of after ≡ edges_of before ++ e ∷ []
  pub finals_kept : after.finals ≡ before.finals
  pub states_kept : after.states ≡ before.states
  pub actions_kept : after.actions ≡ before.actions

-- after an accepted edge: it is added at the end, or it was there and nothing changed
abbrev pub AfterEdge : Automaton → Automaton → Edge → Type 0
AfterEdge before after e = (Among e (edges_of before) × (after ≡ before)) ⊎ ((Among e (edges_of before) → ⊥) × EdgeAdded before after e)

-- state q is final; all else is as before
pub record FinalSet (before after : Automaton) (q : ℕ) : Type 0 where
  pub here : final_at after q ≡ true
  pub others : (p : ℕ) → p ≢ q → final_at after p ≡ final_at before p
  pub edges_kept : edges_of after ≡ edges_of before
  pub states_kept : after.states ≡ before.states
  pub actions_kept : after.actions ≡ before.actions

-- the causes of each call, in order
abbrev pub CauseSize : ℕ → ℕ → Option ℕ → Type 0
CauseSize states actions = Refuse (Outside 1 16 states ⊎ Outside 1 16 actions) 4 Accept

abbrev pub CauseEdge : Automaton → Edge → Option ℕ → Type 0
CauseEdge m e =
    Refuse (m.actions ≤ e.action) 2
    (Refuse ((m.states ≤ e.from) ⊎ (m.states ≤ e.to)) 5
    (Refuse ((Among e (edges_of m) → ⊥) × (64 ≤ length (edges_of m))) 23 Accept))

abbrev pub CauseFinal : Automaton → ℕ → Option ℕ → Type 0
CauseFinal m q = Refuse (m.states ≤ q) 5 Accept
