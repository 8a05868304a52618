-- What is said of the answer that a question came back with.
use Rattle.std.specs.Prelude.{Bool, true, false, ℕ, List, ◌++◌, Ok, Err, Result, codes}
use Rattle.std.specs.Fmt.{decimal}
use Rattle.model.specs.Refusals.{number}
use Rattle.model.specs.declared.refusal.Refusal.{Refusal}

abbrev pub said : Result Bool Refusal → List ℕ
said (Ok true) = codes "in"
said (Ok false) = codes "out"
said (Err e) = codes "refused with " ++ decimal (number e)
