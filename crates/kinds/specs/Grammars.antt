-- Grammars: their words, and what the calls do.
use Rattle.std.specs.Prelude.{◌≡◌, ℕ, ◌≤◌, ◌⊎◌, List, [], ◌∷◌, ◌++◌, length, Option}
use Rattle.model.specs.Refusals.{Refuse, Accept}
use Rattle.model.specs.Relations.{Among}
use Rattle.model.specs.RecordSets.{records_of}
use Rattle.model.specs.Sizes.{Outside}
use Rattle.language.specs.Words.{Word}
use Rattle.language.specs.Rules.{SymbolsBelow, ActionsBelow}
use Rattle.language.specs.Derivations.{Derives}
use Rattle.language.specs.declared.rule.Rule.{Rule}
use Rattle.kinds.specs.declared.grammar.Grammar.{Grammar}

-- the rules, in the order in which they were added
abbrev pub rules_of : Grammar → List Rule
rules_of g = records_of g.rules

-- the words that the rules derive from symbol 0
abbrev pub GrammarWords : Grammar → Word → Type 0
GrammarWords g w = Derives (rules_of g) 0 w

-- of these sizes, with no rule
pub record NoRules (k a : ℕ) (g : Grammar) : Type 0 where
  pub symbols_are : g.symbols ≡ k
  pub actions_are : g.actions ≡ a
  pub rules_empty : rules_of g ≡ []

-- the grammar after is the one before with the rule at the end
pub record RuleAdded (before after : Grammar) (r : Rule) : Type 0 where
  pub rules_are : rules_of after ≡ rules_of before ++ r ∷ []
  pub symbols_kept : after.symbols ≡ before.symbols
  pub actions_kept : after.actions ≡ before.actions

-- after an accepted rule: it is added at the end, or it was there and nothing changed
abbrev pub AfterRule : Grammar → Grammar → Rule → Type 0
AfterRule before after r = (Among r (rules_of before) × (after ≡ before)) ⊎ ((Among r (rules_of before) → ⊥) × RuleAdded before after r)

-- the causes of each call, in order
abbrev pub CauseSize : ℕ → ℕ → Option ℕ → Type 0
CauseSize symbols actions = Refuse (Outside 1 16 symbols ⊎ Outside 1 16 actions) 4 Accept

abbrev pub CauseRule : Grammar → Rule → Option ℕ → Type 0
CauseRule g r =
    Refuse (ActionsBelow g.actions r → ⊥) 2
    (Refuse (SymbolsBelow g.symbols r → ⊥) 5
    (Refuse ((Among r (rules_of g) → ⊥) × (128 ≤ length (rules_of g))) 23 Accept))
