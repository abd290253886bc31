-- Differences of numbers, below 0 too, and numbers as signed ones. Assumes nothing.
use mathlib.Core.Bool.{Bool, true, false, cond, false≢true}
use mathlib.Core.List.{List}
use mathlib.Core.Logic.{◌↔◌}
use mathlib.Core.Path.{◌≡◌, refl, sym, ap, ◌∙◌}
use Prim.Native.Nat.{ℕ, zero, suc, ◌+◌, ◌-◌, ◌<◌}
use native.Mathlib.Nat.{add-zero, sub-zero}
use native.Mathlib.Omega.{arith}
use borrow.Author.Tests.{le-ltb, ltb-false}
use lib.Dec.{ltb}
use lib.IntN.{ℤ, pos, negsuc, nat_abs, sub_ℕ, ◌-ℤ◌}
use lib.ListN.{length, get_or, length-map, get_or-map}
use lib.Signed.{mag, non_neg}
use Rattle.model.specs.Numbers.{signed, cell}

-- a difference by whether it is below 0
abbrev by_sign : ℕ → ℕ → Bool → ℤ
by_sign a b below = cond below (negsuc (b - suc a)) (pos (a - b))

-- the difference of two signed numbers that are 0 or above
pub difference_pos : (a b : ℕ) → pos a -ℤ pos b ≡ sub_ℕ a b
difference_pos a zero = ap pos (add-zero a ∙ sym (sub-zero a)) ∙ ap (by_sign a 0) (sym (le-ltb a 0 (omega arith)))
difference_pos a (suc b) = refl

-- it is nearer to 0 than what both numbers are below
pub difference_small : (a b limit : ℕ) → a < limit → b < limit → mag (sub_ℕ a b) < limit
difference_small a b limit ha hb = split (ltb a b)
  where
    split : (t : Bool) → mag (by_sign a b t) < limit
    split true = omega arith
    split false = omega arith

-- it is g, 0 or above, exactly where b and g are a
pub difference_is : (a b g : ℕ) → sub_ℕ a b ≡ pos g ↔ a ≡ g + b
difference_is a b g = (split (ltb a b) refl, λ e. ap (by_sign a b) (le-ltb a b (omega (arith, e))) ∙ ap pos (omega (arith, e)))
  where
    split : (t : Bool) → ltb a b ≡ t → by_sign a b t ≡ pos g → a ≡ g + b
    split true q e = absurd (false≢true (ap non_neg e))
    split false q e = let left : a - b ≡ g = ap nat_abs e in omega (arith, left, ltb-false a b q)

-- ---- numbers as signed ones
pub length-signed : (g : List ℕ) → length (signed g) ≡ length g
length-signed g = length-map g pos

pub cell-signed : (g : List ℕ) (i : ℕ) → get_or (signed g) i (pos 0) ≡ pos (cell g i)
cell-signed g i = get_or-map pos g i 0
