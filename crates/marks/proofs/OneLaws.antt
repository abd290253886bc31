-- The ones of a word are its set positions. Assumes nothing.
use mathlib.Core.List.{List}
use mathlib.Core.Path.{◌≡◌, refl, sym, ap, ◌∙◌}
use Prim.Native.Nat.{ℕ, zero, suc, ◌+◌, ◌*◌, ◌%◌, ◌^◌, ◌≤◌, ◌<◌}
use native.Mathlib.Nat.{mod-lt, mod-one, mod-eq_of_lt, add_comm}
use native.Mathlib.Numerals.{one-add}
use native.Mathlib.Omega.{arith}
use lib.Count.{ones, ones_cat}
use lib.Pow.{pow_pos, mod-pow-add}
use Rattle.model.specs.Numbers.{sum, cell, bit, word_positions, set_positions}
use Rattle.model.specs.File.{mark_total, word_limit}
use Rattle.theory.proofs.Sums.{sum_most}
use Rattle.theory.proofs.Bits.{bit_lt, each-bit, set_most}

-- a bit counts itself
ones_bit : (b : ℕ) → b < 2 → ones b ≡ b
unfolding ones
ones_bit = each-bit (λ b. ones b ≡ b) refl refl

-- the first k positions
ones_low : (k w : ℕ) → ones (w % 2 ^ k) ≡ sum k (bit w)
unfolding ones
ones_low zero w = ap ones (mod-one w)
ones_low (suc k) w =
    ap (λ (j : ℕ). ones (w % 2 ^ j)) (sym (one-add k))
    ∙ ap ones (mod-pow-add w 1 k)
    ∙ ones_cat k (bit w k) (w % 2 ^ k) (mod-lt w (pow_pos k))
    ∙ add_comm (ones (bit w k)) (ones (w % 2 ^ k))
    ∙ ap (λ (n : ℕ). ones (w % 2 ^ k) + n) (ones_bit (bit w k) (bit_lt w k))
    ∙ ap (λ (n : ℕ). n + bit w k) (ones_low k w)

-- and all of a word's
pub ones_set : (w : ℕ) → w < 2 ^ word_positions → ones w ≡ set_positions w
unfolding set_positions
ones_set w h = ap ones (sym (mod-eq_of_lt h)) ∙ ones_low word_positions w

-- a count of ones fits a word
pub ones_fit : (w : ℕ) → w < 2 ^ word_positions → ones w < 2 ^ word_positions
ones_fit w h = omega (arith, ones_set w h, set_most w)

-- all words together have at most 47 times 64
pub total_most : (marks : List ℕ) → mark_total marks ≤ word_limit * word_positions
unfolding mark_total
total_most marks = sum_most word_limit word_positions (λ w _. set_most (cell marks w))
