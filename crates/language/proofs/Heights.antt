-- Derivations put together, whatever their heights.
use Rattle.std.proofs.Common.{◌≡◌, ℕ, zero, suc, ◌+◌, List, [], ◌∷◌, ◌++◌, sym, refl, subst, arith}
use Rattle.model.specs.Relations.{Among}
use Rattle.language.specs.Words.{Word, Known}
use Rattle.language.specs.Rules.{ActionsBelow, LettersWithin}
use Rattle.language.specs.Derivations.{Yields, DerivesWithin, Derives}
use Rattle.language.specs.declared.rule.Rule.{Rule}
use Rattle.language.specs.declared.rule.Rule.TheVariants.{Empty, Letter, Lead, Same, Pair}

-- a rule gives no less from more
pub yields_more : (r : Rule) (P Q : ℕ → Word → Type 0) → ((X : ℕ) (w : Word) → P X w → Q X w) → (X : ℕ) (w : Word) → Yields r P X w → Yields r Q X w
yields_more (Empty H) P Q up X w y = y
yields_more (Letter H a) P Q up X w y = y
yields_more (Lead H a B) P Q up X w (is, v, word, below) = (is, v, word, up B v below)
yields_more (Same H B) P Q up X w (is, below) = (is, up B w below)
yields_more (Pair H B C) P Q up X w (is, u, v, word, left, right) = (is, u, v, word, up B u left, up C v right)

module _ (rules : List Rule) where
  pub within_more : (h X : ℕ) (w : Word) → DerivesWithin rules h X w → DerivesWithin rules (suc h) X w
  within_more zero X w d = absurd d
  within_more (suc h) X w (r, there, y) = (r, there, yields_more r (DerivesWithin rules h) (DerivesWithin rules (suc h)) (within_more h) X w y)

  pub within_plus : (k h X : ℕ) (w : Word) → DerivesWithin rules h X w → DerivesWithin rules (k + h) X w
  within_plus zero h X w d = let e : h ≡ 0 + h = omega arith in subst (λ n. DerivesWithin rules n X w) e d
  within_plus (suc k) h X w d =
      let e : suc (k + h) ≡ suc k + h = omega arith in
      subst (λ n. DerivesWithin rules n X w) e (within_more (k + h) X w (within_plus k h X w d))

  pub by_empty : (X : ℕ) → Among (Empty X) rules → Derives rules X []
  by_empty X there = (1, (Empty X, there, (refl, refl)))

  pub by_letter : (X a : ℕ) → Among (Letter X a) rules → Derives rules X (a ∷ [])
  by_letter X a there = (1, (Letter X a, there, (refl, refl)))

  pub by_same : (X B : ℕ) (w : Word) → Among (Same X B) rules → Derives rules B w → Derives rules X w
  by_same X B w there (h, d) = (suc h, (Same X B, there, (refl, d)))

  pub by_lead : (X a B : ℕ) (v : Word) → Among (Lead X a B) rules → Derives rules B v → Derives rules X (a ∷ v)
  by_lead X a B v there (h, d) = (suc h, (Lead X a B, there, (refl, v, refl, d)))

  pub by_pair : (X B C : ℕ) (u v : Word) → Among (Pair X B C) rules → Derives rules B u → Derives rules C v → Derives rules X (u ++ v)
  by_pair X B C u v there (h, d) (k, e) =
      let s : k + h ≡ h + k = omega arith in
      (suc (h + k), (Pair X B C, there, (refl, u, v, refl, subst (λ n. DerivesWithin rules n B u) s (within_plus k h B u d), within_plus h k C v e)))

pub known_append : (n : ℕ) (u v : Word) → Known n u → Known n v → Known n (u ++ v)
known_append n [] v k l = l
known_append n (a ∷ u) v k l = (k.0, known_append n u v k.1 l)

-- a rule whose action is known gives known words from known words
yields_known : (n : ℕ) (below : ℕ → Word → Type 0) → ((X : ℕ) (w : Word) → below X w → Known n w) → (r : Rule) → ActionsBelow n r → (X : ℕ) (w : Word) → Yields r below X w → Known n w
yields_known n below known (Empty H) l X w (is, word) = subst (Known n) (sym word) tt
yields_known n below known (Letter H a) l X w (is, word) = subst (Known n) (sym word) (l, tt)
yields_known n below known (Lead H a B) l X w (is, v, word, d) = subst (Known n) (sym word) (l, known B v d)
yields_known n below known (Same H B) l X w (is, d) = known B w d
yields_known n below known (Pair H B C) l X w (is, u, v, word, d, e) = subst (Known n) (sym word) (known_append n u v (known B u d) (known C v e))

within_known : (n : ℕ) (rules : List Rule) → LettersWithin n rules → (h X : ℕ) (w : Word) → DerivesWithin rules h X w → Known n w
within_known n rules letters zero X w d = absurd d
within_known n rules letters (suc h) X w (r, there, y) = yields_known n (DerivesWithin rules h) (within_known n rules letters h) r (letters r there) X w y

-- rules whose actions are known derive known words alone
pub derives_known : (n : ℕ) (rules : List Rule) → LettersWithin n rules → (X : ℕ) (w : Word) → Derives rules X w → Known n w
derives_known n rules letters X w (h, d) = within_known n rules letters h X w d
