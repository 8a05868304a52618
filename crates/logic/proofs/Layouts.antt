-- Places of facts, and facts at places.
use Rattle.std.proofs.Common.{◌≡◌, ℕ, ◌+◌, ◌*◌, ◌/◌, ◌%◌, ◌<◌, ◌≤◌, sym, refl, ap, ◌∙◌, subst, add-mul, arith}
use Rattle.std.proofs.lemmas.Nat.{div-add-mod', div-mul-add, mod-mul-add, mod_below, mul-le}
use Rattle.model.specs.Relations.{Triple}
use Rattle.logic.specs.Layouts.{place, spot}

-- a place speaks of the fact whose place it is
pub place_of : (n x s k : ℕ) → k / n / n ≡ x → k / n % n ≡ s → k ≡ (x * n + s) * n + k % n
place_of n x s k e₁ e₂ =
    let line : k / n ≡ x * n + s = sym (div-add-mod' (k / n) n) ∙ ap (λ q. q * n + k / n % n) e₁ ∙ ap (λ q. x * n + q) e₂ in
    sym (div-add-mod' k n) ∙ ap (λ q. q * n + k % n) line

pub spot_place : (n : ℕ) (p : Triple) → p.1 < n → p.2 < n → spot n (place n p) ≡ p
spot_place n p l₁ l₂ =
    let k = place n p in
    let line : k / n ≡ p.0 * n + p.1 = div-mul-add (p.0 * n + p.1) n p.2 l₂ in
    let to : k % n ≡ p.2 = mod-mul-add (p.0 * n + p.1) n p.2 l₂ in
    let symbol : k / n / n ≡ p.0 = ap (λ q. q / n) line ∙ div-mul-add p.0 n p.1 l₁ in
    let from : k / n % n ≡ p.1 = ap (λ q. q % n) line ∙ mod-mul-add p.0 n p.1 l₁ in
    ap (λ (a : ℕ). let t : Triple = (a, k / n % n, k % n) in t) symbol ∙ ap (λ (a : ℕ). let t : Triple = (p.0, a, k % n) in t) from ∙ ap (λ (a : ℕ). let t : Triple = (p.0, p.1, a) in t) to

-- the places of the facts of m symbols are the first ones
pub place_below : (n m x s t : ℕ) → x < m → s < n → t < n → (x * n + s) * n + t < m * n * n
place_below n m x s t lx ls lt =
    let lines : (x * n + s + 1) ≤ m * n = omega (arith, mul-le (x + 1) n m n (omega arith) (omega arith), add-mul x 1 n) in
    omega (arith, mul-le (x * n + s + 1) n (m * n) n lines (omega arith), add-mul (x * n + s) 1 n)

pub spot_below : (n m k : ℕ) → 0 < n → k / n / n < m → k < m * n * n
spot_below n m k pos l =
    subst (λ j. j < m * n * n) (sym (place_of n (k / n / n) (k / n % n) k refl refl)) (place_below n m (k / n / n) (k / n % n) (k % n) l (mod_below (k / n) n pos) (mod_below k n pos))
