-- The digits of an amount, and how many they are. Assumes nothing.
use mathlib.Core.Bool.{Bool, true, false, cond}
use mathlib.Core.Path.{◌≡◌, refl, ap, ◌∙◌}
use mathlib.Core.List.{List, [], ◌∷◌, ◌++◌, map}
use Prim.Native.Nat.{ℕ, zero, suc, ◌+◌, ◌*◌, ◌/◌, ◌%◌, ◌^◌, ◌≤◌, ◌<◌, suc-le-suc}
use native.Mathlib.Nat.{not-suc-le-zero, zero-lt-suc, pow-suc, mul-suc}
use native.Mathlib.Omega.{arith}
use borrow.Author.Tests.{lt-ltb, le-ltb, ltb-true, ltb-false}
use lib.Dec.{ltb}
use lib.ListN.{length, length-append}
use Rattle.model.specs.Numbers.{cell}
use Rattle.model.specs.Text.{digits, decimal, rest, line}

-- a single digit
pub decimal-one : (n : ℕ) → n < 10 → decimal n ≡ (48 + n % 10) ∷ []
unfolding digits
decimal-one n h =
    let e : n ≡ n % 10 = omega arith in
    rw (digits, lt-ltb n 10 h) (ap (λ (d : ℕ). (48 + d) ∷ []) e)

-- digits to spare change nothing
spare : (f g n : ℕ) → n < f → n < g → digits f n ≡ digits g n
unfolding digits
spare zero g n h k = absurd (not-suc-le-zero h)
spare (suc f) zero n h k = absurd (not-suc-le-zero k)
spare (suc f) (suc g) n h k = split (ltb n 10) refl (spare f g (n / 10))
  where
    split : (t : Bool) → ltb n 10 ≡ t → (n / 10 < f → n / 10 < g → digits f (n / 10) ≡ digits g (n / 10)) → digits (suc f) n ≡ digits (suc g) n
    split true e more = rw (digits, e)
    split false e more =
        let big : 10 ≤ n = ltb-false n 10 e in
        rw (digits, e) (ap (λ (l : List ℕ). l ++ ((48 + n % 10) ∷ [])) (more (omega arith) (omega arith)))

-- several digits
pub decimal_more : (n : ℕ) → 10 ≤ n → decimal n ≡ decimal (n / 10) ++ ((48 + n % 10) ∷ [])
unfolding digits
decimal_more n h =
    rw (digits, le-ltb n 10 h) (ap (λ (l : List ℕ). l ++ ((48 + n % 10) ∷ [])) (spare n (suc (n / 10)) (n / 10) (omega arith) (omega arith)))

-- the first digit of a number that has one or two, whatever follows
pub first_digit : (n : ℕ) (more : List ℕ) → n < 100 → cell (decimal n ++ more) 0 ≡ cond (ltb n 10) (48 + n) (48 + n / 10)
first_digit n more h = split (ltb n 10) refl
  where
    split : (t : Bool) → ltb n 10 ≡ t → cell (decimal n ++ more) 0 ≡ cond t (48 + n) (48 + n / 10)
    split true e =
        let low = ltb-true n 10 e in
        ap (λ (l : List ℕ). cell (l ++ more) 0) (decimal-one n low) ∙ omega arith
    split false e =
        let high = ltb-false n 10 e in
        ap (λ (l : List ℕ). cell (l ++ more) 0) (decimal_more n high ∙ ap (λ (l : List ℕ). l ++ ((48 + n % 10) ∷ [])) (decimal-one (n / 10) (omega arith))) ∙ omega arith

length_more : (n : ℕ) → 10 ≤ n → length (decimal n) ≡ length (decimal (n / 10)) + 1
length_more n h = ap length (decimal_more n h) ∙ length-append (decimal (n / 10)) ((48 + n % 10) ∷ [])

-- at most k + 1 bytes for an amount below 10 ^ (k + 1)
pub decimal-fits : (k n : ℕ) → n < 10 ^ suc k → length (decimal n) ≤ suc k
decimal-fits zero n h = omega (arith, ap length (decimal-one n h))
decimal-fits (suc k) n h = split (ltb n 10) refl (decimal-fits k (n / 10))
  where
    split : (t : Bool) → ltb n 10 ≡ t → (n / 10 < 10 ^ suc k → length (decimal (n / 10)) ≤ suc k) → length (decimal n) ≤ suc (suc k)
    split true e more = omega (arith, ap length (decimal-one n (ltb-true n 10 e)))
    split false e more =
        let m = more (omega (arith, pow-suc 10 (suc k))) in
        omega (arith, length_more n (ltb-false n 10 e))

-- a line of amounts below 10 ^ (k + 1) takes at most k + 2 bytes a field
rest-fits : (k : ℕ) (xs : List ℕ)
    → ((i : ℕ) → i < length xs → cell xs i < 10 ^ suc k) → length (rest (map decimal xs)) ≤ (k + 2) * length xs + 1
rest-fits k [] h = omega arith
rest-fits k (x ∷ xs) h =
    let here = decimal-fits k x (h 0 (zero-lt-suc (length xs))) in
    let more = rest-fits k xs (λ i lt. h (suc i) (suc-le-suc lt)) in
    omega (arith, length-append (decimal x) (rest (map decimal xs)), mul-suc (k + 2) (length xs))

pub line-fits : (k : ℕ) (xs : List ℕ) → 1 ≤ length xs
    → ((i : ℕ) → i < length xs → cell xs i < 10 ^ suc k) → length (line (map decimal xs)) ≤ (k + 2) * length xs
line-fits k [] p h = absurd (not-suc-le-zero p)
line-fits k (x ∷ xs) p h = omega (arith, rest-fits k (x ∷ xs) h)
