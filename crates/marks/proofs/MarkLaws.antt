-- The marks tell which cells were named: a mark sets its own bit and no other. Assumes nothing.
use mathlib.Core.Bool.{Bool, false, ◌&&◌, ◌||◌}
use mathlib.Core.List.{List}
use mathlib.Core.Path.{◌≡◌, refl, sym, ap, ap₂, ◌∙◌}
use Prim.Native.Nat.{ℕ, ◌*◌, ◌/◌, ◌%◌, ◌^◌, ◌<◌, max}
use native.Mathlib.Nat.{zero-div, max-zero}
use native.Mathlib.Decide.{ℕ_discrete}
use native.Mathlib.Omega.{arith}
use borrow.Author.Tests.{eq-eqb, ne_eqb}
use lib.Bits.{bit_or, or_shr, or_mod}
use lib.Dec.{eqb, lit<}
use lib.ListN.{length, set, replicate}
use lib.Pow.{shl_exact}
use lib.Seq.{get_or-set_same, get_or-set_other}
use Rattle.model.specs.Numbers.{cell, bit, word_positions}
use Rattle.model.specs.File.{marked}
use Rattle.theory.proofs.Lists.{cell_zeros}
use Rattle.theory.proofs.Bits.{bit_lt, each-bit, bit-same, bit_other}

-- of two bits, `or` is the larger
or_bits : (r s : ℕ) → r < 2 → s < 2 → bit_or r s ≡ max r s
or_bits r s a b =
    each-bit (λ r. bit_or r s ≡ max r s) (each-bit (λ s. bit_or 0 s ≡ max 0 s) refl refl s b) (each-bit (λ s. bit_or 1 s ≡ max 1 s) refl refl s b) r a

bit_or_lem : (a b k : ℕ) → bit (bit_or a b) k ≡ max (bit a k) (bit b k)
bit_or_lem a b k = ap (λ (x : ℕ). x % 2) (or_shr a b k) ∙ or_mod (a / 2 ^ k) (b / 2 ^ k) 1 ∙ or_bits (bit a k) (bit b k) (bit_lt a k) (bit_lt b k)

-- marks with the bit of a cell set
module _ (marks : List ℕ) (l p : ℕ) (hl : l < length marks) (hp : p < word_positions) where
  abbrev word : ℕ
  word = cell marks l

  abbrev pub new : ℕ
  new = bit_or word (1 * 2 ^ p % 2 ^ 64)

  new_bit : (k : ℕ) → bit new k ≡ max (bit word k) (bit (1 * 2 ^ p) k)
  new_bit k =
      let exact : 1 * 2 ^ p % 2 ^ 64 ≡ 1 * 2 ^ p = shl_exact 1 p 64 (lit< tt) (omega arith) in
      bit_or_lem word (1 * 2 ^ p % 2 ^ 64) k ∙ ap (λ (x : ℕ). max (bit word k) (bit x k)) exact

  in_word : (k : ℕ) → Dec (p ≡ k) → eqb (bit new k) 1 ≡ (eqb p k || eqb (bit word k) 1)
  in_word k (yes e) =
      eq-eqb _ _ (new_bit k ∙ ap (λ (x : ℕ). max (bit word k) (bit (1 * 2 ^ p) x)) (sym e) ∙ ap (max (bit word k)) (bit-same p)
      ∙ (let b = bit_lt word k in omega arith))
      ∙ ap (λ (b : Bool). b || eqb (bit word k) 1) (sym (eq-eqb p k e))
  in_word k (no h) =
      ap (λ (x : ℕ). eqb x 1) (new_bit k ∙ ap (max (bit word k)) (bit_other p k h) ∙ max-zero (bit word k))
      ∙ ap (λ (b : Bool). b || eqb (bit word k) 1) (sym (ne_eqb p k h))

  in_marks : (i k : ℕ) → Dec (l ≡ i) → marked (set marks l new) i k ≡ (eqb l i && eqb p k || marked marks i k)
  unfolding marked
  in_marks i k (yes e) =
      ap (λ (j : ℕ). eqb (bit (cell (set marks l new) j) k) 1) (sym e)
      ∙ ap (λ (w : ℕ). eqb (bit w k) 1) (get_or-set_same marks l new 0 hl)
      ∙ in_word k (ℕ_discrete p k)
      ∙ ap₂ (λ (b : Bool) (j : ℕ). b && eqb p k || eqb (bit (cell marks j) k) 1) (sym (eq-eqb l i e)) e
  in_marks i k (no h) =
      ap (λ (w : ℕ). eqb (bit w k) 1) (get_or-set_other marks l i new 0 (λ e. h (sym e)))
      ∙ ap (λ (b : Bool). b && eqb p k || eqb (bit (cell marks i) k) 1) (sym (ne_eqb l i h))

  pub marked_more : (i k : ℕ) → marked (set marks l new) i k ≡ (eqb l i && eqb p k || marked marks i k)
  marked_more i k = in_marks i k (ℕ_discrete l i)

-- words of 0 mark nothing
pub marked_none : (len i k : ℕ) → marked (replicate len 0) i k ≡ false
unfolding marked
marked_none len i k = ap (λ (w : ℕ). eqb (bit w k) 1) (cell_zeros len i) ∙ ap (λ (b : ℕ). eqb (b % 2) 1) (zero-div (2 ^ k))
