-- The bits of a word. Assumes nothing.
use mathlib.Core.Path.{◌≡◌, sym, ap, ◌∙◌, subst}
use Prim.Native.Nat.{ℕ, zero, suc, ◌+◌, ◌-◌, ◌*◌, ◌/◌, ◌%◌, ◌^◌, ◌≤◌, ◌<◌}
use native.Mathlib.Nat.{mod-lt, zero-lt-suc, le_of_suc-le-suc, mul-le-mul_right, div-eq_of_lt, one-mul}
use native.Mathlib.Decide.{dec_lt}
use native.Mathlib.Omega.{arith}
use lib.Bits.{shifted_even}
use lib.Pow.{pow-lt, pow-add, shl-shr}
use Rattle.model.specs.Numbers.{bit, word_positions, set_positions}
use Rattle.theory.proofs.Sums.{sum_most}

-- a bit is 0 or 1, and what holds of both holds of it
pub bit_lt : (w k : ℕ) → bit w k < 2
bit_lt w k = mod-lt (w / 2 ^ k) (zero-lt-suc 1)

pub each-bit : (P : ℕ → Type 0) → P 0 → P 1 → (b : ℕ) → b < 2 → P b
each-bit P p q zero h = p
each-bit P p q (suc zero) h = q
each-bit P p q (suc (suc b)) h = absurd (omega arith)

-- the bits of 2 ^ p
pub bit-same : (p : ℕ) → bit (1 * 2 ^ p) p ≡ 1
bit-same p = ap (λ (x : ℕ). x % 2) (shl-shr 1 p)

bit_above : (p k : ℕ) → p < k → bit (1 * 2 ^ p) k ≡ 0
bit_above p k h = ap (λ (x : ℕ). x % 2) (div-eq_of_lt (subst (λ (x : ℕ). x < 2 ^ k) (sym (one-mul (2 ^ p))) (pow-lt h)))

bit_below : (p k : ℕ) → k < p → bit (1 * 2 ^ p) k ≡ 0
bit_below p k h =
    let d = p - suc k in
    let e : p ≡ suc d + k = omega arith in
    ap (λ (x : ℕ). bit (1 * 2 ^ x) k) e
    ∙ ap (λ (x : ℕ). bit x k) (one-mul (2 ^ (suc d + k)) ∙ pow-add 2 (suc d) k)
    ∙ ap (λ (x : ℕ). x % 2) (shl-shr (2 ^ suc d) k)
    ∙ ap (λ (x : ℕ). x % 2) (sym (one-mul (2 ^ suc d))) ∙ shifted_even 1 d

pub bit_other : (p k : ℕ) → (p ≡ k → ⊥) → bit (1 * 2 ^ p) k ≡ 0
bit_other p k h = go (dec_lt p k) (dec_lt k p)
  where
    go : Dec (p < k) → Dec (k < p) → bit (1 * 2 ^ p) k ≡ 0
    go (yes a) b = bit_above p k a
    go (no a) (yes b) = bit_below p k b
    go (no a) (no b) = absurd (h (omega arith))

-- a number taken or left by a bit
pub bit_takes : (w k a : ℕ) → bit w k * a ≤ a
bit_takes w k a = omega (arith, mul-le-mul_right a (le_of_suc-le-suc (bit_lt w k)))

-- at most all positions are set
pub set_most : (w : ℕ) → set_positions w ≤ word_positions
unfolding set_positions
set_most w = sum_most word_positions 1 (λ k _. le_of_suc-le-suc (bit_lt w k))
