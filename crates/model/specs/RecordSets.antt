-- Sets of records, as lists in the order in which the records were added.
use Rattle.std.specs.Prelude.{◌≡◌, ℕ, ◌≤◌, ◌⊎◌, List, [], ◌∷◌, ◌++◌, length, Option}
use Rattle.model.specs.declared.record_set.RecordSet.{RecordSet}
use Rattle.model.specs.Refusals.{Refuse, Accept}
use Rattle.model.specs.Relations.{Among}

-- the records of a set
abbrev pub records_of : {T : Type 0} {n : ℕ} → RecordSet T n → List T
records_of s = s.records.items

-- why a record is not added to a set of at most n: it is not there, and the set is full
abbrev pub CauseAdd : {T : Type 0} → ℕ → List T → T → Option ℕ → Type 0
CauseAdd n xs x = Refuse ((Among x xs → ⊥) × (n ≤ length xs)) 23 Accept

-- after an accepted record: it is added at the end, or it was there and nothing changed
abbrev pub AfterAdd : {T : Type 0} → List T → List T → T → Type 0
AfterAdd before after x = (Among x before × (after ≡ before)) ⊎ ((Among x before → ⊥) × (after ≡ before ++ x ∷ []))
