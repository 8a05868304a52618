-- The marks of a question are right where its parts' marks are.
use Rattle.std.proofs.Common.{ℕ, ◌<◌, ◌≤◌, ◌⊎◌, List, inl, inr, ⊎_elim, arith}
use Rattle.model.specs.declared.model.Model.{Model}
use Rattle.model.specs.declared.number_set.NumberSet.{NumberSet}
use Rattle.model.specs.Models.{Labelled}
use Rattle.model.specs.Relations.{Exactly, Joined}
use Rattle.model.specs.Sets.{Has}
use Rattle.language.specs.declared.rule.Rule.{Rule}
use Rattle.language.specs.Derivations.{Derives}
use Rattle.language.specs.Tables.{Table, Accepts}
use Rattle.logic.specs.Formulas.{Formula, proposition, neg, or, until, release, Sat}
use Rattle.logic.specs.Paths.{SomeGood}
use Rattle.logic.specs.Maximal.{SomeKeeps}
use Rattle.logic.proofs.Mapping.{Follows, some_good_map, some_keeps_map}
use Rattle.sheet.specs.Books.{Marks}

pub marks_proposition : (m : Model) (p : ℕ) (x : NumberSet) → Exactly (Has x) (λ s. (s < m.states) × Labelled m s p) → Marks m (proposition p) x
marks_proposition m p x e s l = (λ h. ((e s).0 h).1, λ h. (e s).1 (l, h))

pub marks_not : (m : Model) (f : Formula) (a x : NumberSet) → Exactly (Has x) (λ s. (s < m.states) × (Has a s → ⊥)) → Marks m f a → Marks m (neg f) x
marks_not m f a x e mk s l = (λ h sat. ((e s).0 h).1 ((mk s l).1 sat), λ no. (e s).1 (l, λ h. no ((mk s l).0 h)))

pub marks_or : (m : Model) (f g : Formula) (a b x : NumberSet) → Exactly (Has x) (λ s. Has a s ⊎ Has b s) → Marks m f a → Marks m g b → Marks m (or f g) x
marks_or m f g a b x e mk mk' s l = (
  λ h. ⊎_elim (λ p. inl ((mk s l).0 p)) (λ q. inr ((mk' s l).0 q)) ((e s).0 h),
  λ sat. (e s).1 (⊎_elim (λ p. inl ((mk s l).1 p)) (λ q. inr ((mk' s l).1 q)) sat),
)

-- the states below n that a set lacks
pub without_exact : (n : ℕ) (all a x : NumberSet) → n ≤ 32 → Exactly (Has all) (λ t. (t < n) × (t < 32)) → Exactly (Has x) (λ t. Has all t × (Has a t → ⊥)) → Exactly (Has x) (λ s. (s < n) × (Has a s → ⊥))
without_exact n all a x few is e s =
    (λ h. (((is s).0 ((e s).0 h).0).0, ((e s).0 h).1), λ d. let l = d.0 in (e s).1 ((is s).1 (l, omega arith), d.1))

pub union_exact : (a b x : NumberSet) → Joined (Has a) (Has x) (Has b) → Exactly (Has x) (λ s. Has a s ⊎ Has b s)
union_exact a b x j s = (j.only s, ⊎_elim (j.keeps s) (j.puts s))

-- the parts' marks in place of their formulas
pub from_marks : (m : Model) (f : Formula) (a : NumberSet) → Marks m f a → Follows m (Has a) (λ t. Sat m f t)
from_marks m f a mk t l = (mk t l).0

pub to_marks : (m : Model) (f : Formula) (a : NumberSet) → Marks m f a → Follows m (λ t. Sat m f t) (Has a)
to_marks m f a mk t l = (mk t l).1

pub marks_until : (m : Model) (f g : Formula) (rules : List Rule) (a b x : NumberSet) → Exactly (Has x) (λ s. (s < m.states) × SomeGood m (Has a) (Has b) (Derives rules 0) s) → Marks m f a → Marks m g b → Marks m (until f g rules) x
marks_until m f g rules a b x e mk mk' s l = (
  λ h. some_good_map m _ _ _ _ _ _ s l (from_marks m f a mk) (from_marks m g b mk') (λ w d. d) ((e s).0 h).1,
  λ sat. (e s).1 (l, some_good_map m _ _ _ _ _ _ s l (to_marks m f a mk) (to_marks m g b mk') (λ w d. d) sat),
)

pub marks_release : (m : Model) (f g : Formula) (t : Table) (a b x : NumberSet) → Exactly (Has x) (λ s. (s < m.states) × SomeKeeps m (Has a) (Has b) (Accepts t) s) → Marks m f a → Marks m g b → Marks m (release f g t) x
marks_release m f g t a b x e mk mk' s l = (
  λ h. some_keeps_map m _ _ _ _ (Accepts t) (Accepts t) s l (from_marks m f a mk) (from_marks m g b mk') (λ w d. d) ((e s).0 h).1,
  λ sat. (e s).1 (l, some_keeps_map m _ _ _ _ (Accepts t) (Accepts t) s l (to_marks m f a mk) (to_marks m g b mk') (λ w d. d) sat),
)
