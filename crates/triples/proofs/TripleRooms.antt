-- How much a set of triples can still grow.
use Rattle.std.proofs.Common.{◌≡◌, ℕ, zero, suc, ◌+◌, ◌-◌, ◌*◌, ◌/◌, ◌%◌, ◌^◌, ◌<◌, ◌≤◌, List, [], ◌∷◌, length, get_or, sym, refl, ap, ◌∙◌, subst, div-one, arith}
use native.Mathlib.Nat.{div-div-eq-div-mul, pow-succ', two-pow-succ}
use Rattle.std.proofs.lemmas.Nat.{pow_pos}
use Rattle.model.specs.Sets.{Bit, Has, nothing}
use Rattle.model.specs.declared.number_set.NumberSet.{NumberSet}
use Rattle.model.specs.Relations.{Triple}
use Rattle.triples.specs.Triples.{Holds, Apart}

-- a set of fewer numbers is a smaller number
half : (a t : ℕ) → a / 2 / 2 ^ t ≡ a / 2 ^ suc t
half a t = div-div-eq-div-mul a 2 (2 ^ t) ∙ ap (λ n. a / n) (sym (pow-succ' 2 t))

fewer_less : (n a b : ℕ) → a < 2 ^ n → ((t : ℕ) → Bit a t → Bit b t) → a ≤ b
fewer_less zero a b l sub = omega arith
fewer_less (suc n) a b l sub =
    let high : a / 2 ≤ b / 2 = fewer_less n (a / 2) (b / 2) (omega (arith, two-pow-succ n)) (λ t h. subst (λ m. m % 2 ≡ 1) (sym (half b t)) (sub (suc t) (subst (λ m. m % 2 ≡ 1) (half a t) h))) in
    let low : a % 2 ≡ 1 → b % 2 ≡ 1 = λ h. subst (λ m. m % 2 ≡ 1) (div-one b) (sub 0 (subst (λ m. m % 2 ≡ 1) (sym (div-one a)) h)) in
    omega (arith, odd (a % 2) (b % 2) (omega arith) low)
  where
    odd : (x y : ℕ) → x < 2 → (x ≡ 1 → y ≡ 1) → x ≤ y
    odd zero y m f = omega arith
    odd (suc zero) y m f = omega (arith, f refl)
    odd (suc (suc x)) y m f = absurd (omega arith)

below_power : (n : ℕ) → n < 2 ^ n
below_power zero = omega arith
below_power (suc n) = omega (arith, two-pow-succ n, below_power n, pow_pos n)

pub subset_less : (x y : NumberSet) → ((t : ℕ) → Has x t → Has y t) → x.bits ≤ y.bits
subset_less x y sub = fewer_less x.bits x.bits y.bits (below_power x.bits) sub

-- what the rows can still take up
unfoldable pub room : List NumberSet → ℕ
room [] = 0
room (x ∷ xs) = (4294967296 - x.bits) + room xs

room_less : (xs ys : List NumberSet) → length xs ≡ length ys → ((k : ℕ) → (get_or xs k nothing).bits ≤ (get_or ys k nothing).bits) → room ys ≤ room xs
unfolding room
room_less [] [] e le = omega arith
room_less [] (y ∷ ys) e le = absurd (omega arith)
room_less (x ∷ xs) [] e le = absurd (omega arith)
room_less (x ∷ xs) (y ∷ ys) e le = omega (arith, le 0, room_less xs ys (omega arith) (λ k. le (suc k)))

pub room_falls : (xs ys : List NumberSet) → length xs ≡ length ys → ((k : ℕ) → (get_or xs k nothing).bits ≤ (get_or ys k nothing).bits) → (k : ℕ) → k < length xs → (get_or xs k nothing).bits < (get_or ys k nothing).bits → (get_or ys k nothing).bits < 4294967296 → room ys < room xs
unfolding room
room_falls [] ys e le k l grows fits = absurd (omega arith)
room_falls (x ∷ xs) [] e le k l grows fits = absurd (omega arith)
room_falls (x ∷ xs) (y ∷ ys) e le zero l grows fits = omega (arith, room_less xs ys (omega arith) (λ k. le (suc k)))
room_falls (x ∷ xs) (y ∷ ys) e le (suc k) l grows fits = omega (arith, le 0, room_falls xs ys (omega arith) (λ k. le (suc k)) k (omega arith) grows fits)

-- rows with more facts, and some difference, have less room
pub grown_less : (xs ys : List NumberSet) → length xs ≡ 512 → length ys ≡ 512 → ((p : Triple) → Holds xs p → Holds ys p) → Apart ys xs → room ys < room xs
grown_less xs ys a b keeps d =
    let le : (k : ℕ) → (get_or xs k nothing).bits ≤ (get_or ys k nothing).bits = λ k. subset_less (get_or xs k nothing) (get_or ys k nothing) (λ t h.
    let e : k ≡ k / 32 * 32 + k % 32 = omega arith in
    subst (λ n. Has (get_or ys n nothing) t) (sym e) (keeps (k / 32, k % 32, t) (omega arith, subst (λ n. Has (get_or xs n nothing) t) e h)).1) in
    room_falls xs ys (omega arith) le d.place (omega (arith, d.inside)) (omega (arith, le d.place, d.differs)) d.fits
