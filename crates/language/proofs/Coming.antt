-- The rules that an iterator has given, and those that are still to come.
use Rattle.std.proofs.Common.{◌≡◌, ℕ, zero, suc, ◌+◌, ◌<◌, ◌⊎◌, List, [], ◌∷◌, ◌++◌, length, drop, Option, sym, refl, ap, ◌∙◌, subst, inl, inr, ⊎_elim, append-nil, arith}
use Rattle.std.specs.List.{slice_get}
use Rattle.std.proofs.lemmas.List.{drop_more}
use Rattle.std.proofs.lemmas.Option.{slice_get-get_or}
use Rattle.std.specs.Iterator.{YieldsFirst, Yields}
use Rattle.model.specs.Relations.{Among, Joined, Exactly}
use Rattle.model.proofs.Joins.{joined_like, joined_both, joined_exact}
use Rattle.language.specs.Rules.{BySome}
use Rattle.language.proofs.Members.{among_left, among_right, among_cases}
use Rattle.language.specs.declared.rule.Rule.{Rule}
use Rattle.language.specs.declared.rule.Rule.TheVariants.{Empty}

-- how a list of rules to come gives the first of them
abbrev pub GivesFirst : List Rule → Option Rule → List Rule → Type 0
GivesFirst = YieldsFirst (λ (rest : List Rule). rest)

-- the rule at a place is the first of those from there on
pub first_from : (rules : List Rule) (i : ℕ) (r : Option Rule) → i < length rules → r ≡ slice_get rules i → GivesFirst (drop i rules) r (drop (i + 1) rules)
first_from rules i r inside is =
    let d : Rule = Empty 0 in
    subst (λ o. GivesFirst (drop i rules) o (drop (i + 1) rules)) (sym (is ∙ slice_get-get_or rules i d inside)) (drop_more rules i d inside)

-- all rules are those that came and those that are left
pub all_rules : (rules gone left : List Rule) → Yields GivesFirst rules gone left → rules ≡ gone ++ left
all_rules rules [] left y = y
all_rules rules (x ∷ xs) left (j, step, y) = step ∙ ap (λ r. x ∷ r) (all_rules j xs left y)

among_middle : (xs : List Rule) (x : Rule) (ys : List Rule) → Among x (xs ++ x ∷ ys)
among_middle xs x ys = among_right x xs (x ∷ ys) (0, refl)

-- the rule of a turn is among the rules
pub coming_among : {all start left after : List Rule} {x : Rule} (gone : List Rule) → start ≡ all → Yields GivesFirst start gone left → left ≡ x ∷ after → Among x all
coming_among {all} {start} {left} {after} {x} gone from y is = subst (Among x) (sym (all_rules start gone left y ∙ ap (λ r. gone ++ r) is) ∙ from) (among_middle gone x after)

among_one : (x r : Rule) → Among r (x ∷ []) → r ≡ x
among_one x r (zero, e) = cc
among_one x r (suc k, e) = let z : ◌≡◌ {A = ℕ} 0 1 = cc in absurd (omega arith)

pub among_last : (x : Rule) (xs : List Rule) (r : Rule) → Among r (xs ++ x ∷ []) → Among r xs ⊎ (r ≡ x)
among_last x xs r m = ⊎_elim inl (λ l. inr (among_one x r l)) (among_cases r xs (x ∷ []) m)

-- what the rules so far add, and then what the next one adds
pub joined_next : {Y : Type 0} {P Q R : Y → Type 0} (gone : List Rule) (x : Rule) (D : Rule → Y → Type 0) → Joined P Q (BySome D gone) → Joined Q R (D x) → Joined P R (BySome D (gone ++ x ∷ []))
joined_next gone x D before now = joined_like _ _
    (λ y m. ⊎_elim (λ a. (a.0, among_left a.0 gone (x ∷ []) a.1, a.2)) (λ d. (x, among_middle gone x [], d)) m)
    (λ y m. ⊎_elim (λ a. inl (m.0, a, m.2)) (λ e. inr (subst (λ r. D r y) e m.2)) (among_last x gone m.0 m.1))
    (joined_both _ _ before now)

-- at the end all rules came
pub all_came : {all start left : List Rule} (gone : List Rule) → start ≡ all → Yields GivesFirst start gone left → left ≡ [] → gone ≡ all
all_came {all} {start} {left} gone from y none = sym (append-nil gone) ∙ ap (λ r. gone ++ r) (sym none) ∙ sym (all_rules start gone left y) ∙ from

-- and where nothing was there before, there is what they added
pub exactly_all : {Y : Type 0} {P Q : Y → Type 0} {all start left : List Rule} (gone : List Rule) (D : Rule → Y → Type 0) → ((y : Y) → P y → ⊥) → start ≡ all → Yields GivesFirst start gone left → left ≡ [] → Joined P Q (BySome D gone) → Exactly Q (BySome D all)
exactly_all {all = all} gone D nothing from y none j =
    let done = all_came gone from y none in
    joined_exact (BySome D gone) (BySome D all) nothing (λ z m. subst (λ rules. BySome D rules z) done m) (λ z m. subst (λ rules. BySome D rules z) (sym done) m) j
