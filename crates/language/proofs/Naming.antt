-- The symbols that rules name.
use Rattle.std.proofs.Common.{ℕ, ◌≤◌, List, arith}
use Rattle.language.specs.Rules.{SymbolsBelow, RulesWithin}
use Rattle.language.specs.declared.rule.Rule.{Rule}
use Rattle.language.specs.declared.rule.Rule.TheVariants.{Empty, Letter, Lead, Same, Pair}

-- symbols below k are below more
pub symbols_more : (k n : ℕ) → k ≤ n → (r : Rule) → SymbolsBelow k r → SymbolsBelow n r
symbols_more k n l (Empty H) s = omega arith
symbols_more k n l (Letter H a) s = omega arith
symbols_more k n l (Lead H a B) s = omega arith
symbols_more k n l (Same H B) s = omega arith
symbols_more k n l (Pair H B C) s = omega arith

pub rules_more : (k n : ℕ) (rules : List Rule) → k ≤ n → RulesWithin k rules → RulesWithin n rules
rules_more k n rules l within r there = symbols_more k n l r (within r there)
