-- A pile as the list of its records.
use Rattle.std.specs.Prelude.{ℕ, List, length, take}
use Rattle.pile.specs.declared.base.Pile.{Pile}

-- the records on the pile, the top one last
abbrev pub items : {T : Type 0} → Pile T → List T
items p = take p.count p.slots.now

-- how many records there is room for
abbrev pub room : {T : Type 0} → Pile T → ℕ
room p = length p.slots.now
