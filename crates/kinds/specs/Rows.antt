-- Lists of rules.
use Rattle.std.specs.Prelude.{◌≡◌, ℕ, Bool, true, ◌&&◌, List, nat_lt}
use Rattle.model.specs.Relations.{Among}
use Rattle.language.specs.declared.rule.Rule.{Rule}
use Rattle.language.specs.declared.rule.Rule.TheVariants.{Empty, Letter, Lead, Same, Pair}

-- the rule names symbols below k and actions below n
abbrev pub fits : ℕ → ℕ → Rule → Bool
fits k n (Empty H) = nat_lt H k
fits k n (Letter H a) = nat_lt H k && nat_lt a n
fits k n (Lead H a B) = nat_lt H k && (nat_lt B k && nat_lt a n)
fits k n (Same H B) = nat_lt H k && nat_lt B k
fits k n (Pair H B C) = nat_lt H k && (nat_lt B k && nat_lt C k)

-- the rules of a list name what is there
abbrev pub AllFit : ℕ → ℕ → List Rule → Type 0
AllFit symbols actions rs = (r : Rule) → Among r rs → fits symbols actions r ≡ true
