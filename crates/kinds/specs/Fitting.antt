-- The test of a rule says what it names.
use Rattle.std.specs.Prelude.{◌≡◌, ℕ, true, ◌&&◌, nat_lt}
use Rattle.std.proofs.lemmas.Bool.{lt-ltb, ltb-true, and_from, and_parts}
use Rattle.language.specs.Rules.{SymbolsBelow, ActionsBelow}
use Rattle.language.specs.declared.rule.Rule.{Rule}
use Rattle.language.specs.declared.rule.Rule.TheVariants.{Empty, Letter, Lead, Same, Pair}
use Rattle.kinds.specs.Rows.{fits}

module _ (k n : ℕ) where
  pub fits_from : (r : Rule) → SymbolsBelow k r → ActionsBelow n r → fits k n r ≡ true
  fits_from (Empty H) s a = lt-ltb H k s
  fits_from (Letter H x) s a = and_from (nat_lt H k) (nat_lt x n) (lt-ltb H k s) (lt-ltb x n a)
  fits_from (Lead H x B) s a = and_from (nat_lt H k) (nat_lt B k && nat_lt x n) (lt-ltb H k s.0) (and_from (nat_lt B k) (nat_lt x n) (lt-ltb B k s.1) (lt-ltb x n a))
  fits_from (Same H B) s a = and_from (nat_lt H k) (nat_lt B k) (lt-ltb H k s.0) (lt-ltb B k s.1)
  fits_from (Pair H B C) s a = and_from (nat_lt H k) (nat_lt B k && nat_lt C k) (lt-ltb H k s.0) (and_from (nat_lt B k) (nat_lt C k) (lt-ltb B k s.1) (lt-ltb C k s.2))

  pub symbols_from : (r : Rule) → fits k n r ≡ true → SymbolsBelow k r
  symbols_from (Empty H) f = ltb-true H k f
  symbols_from (Letter H x) f = ltb-true H k (and_parts (nat_lt H k) (nat_lt x n) f).0
  symbols_from (Lead H x B) f =
      let p = and_parts (nat_lt H k) (nat_lt B k && nat_lt x n) f in
      (ltb-true H k p.0, ltb-true B k (and_parts (nat_lt B k) (nat_lt x n) p.1).0)
  symbols_from (Same H B) f = let p = and_parts (nat_lt H k) (nat_lt B k) f in (ltb-true H k p.0, ltb-true B k p.1)
  symbols_from (Pair H B C) f =
      let p = and_parts (nat_lt H k) (nat_lt B k && nat_lt C k) f in
      let q = and_parts (nat_lt B k) (nat_lt C k) p.1 in
      (ltb-true H k p.0, ltb-true B k q.0, ltb-true C k q.1)

  pub actions_from : (r : Rule) → fits k n r ≡ true → ActionsBelow n r
  actions_from (Empty H) f = tt
  actions_from (Letter H x) f = ltb-true x n (and_parts (nat_lt H k) (nat_lt x n) f).1
  actions_from (Lead H x B) f =
      ltb-true x n (and_parts (nat_lt B k) (nat_lt x n) (and_parts (nat_lt H k) (nat_lt B k && nat_lt x n) f).1).1
  actions_from (Same H B) f = tt
  actions_from (Pair H B C) f = tt
