-- A row of a matrix, as the part of its cells that is lent. Assumes nothing.
use mathlib.Core.List.{List}
use mathlib.Core.Path.{◌≡◌, ◌∙◌}
use Prim.Native.Nat.{ℕ, ◌+◌, ◌*◌, ◌-◌, ◌≤◌, ◌<◌}
use native.Mathlib.Nat.{mul-le-mul_right, suc-mul}
use native.Mathlib.Omega.{arith}
use lib.ListN.{length, take, drop, length-drop}
use lib.Seq.{length-take-le, get_or-take, get_or-drop}
use Rattle.model.specs.Numbers.{cell, at}

module _ (n j : ℕ) (d : List ℕ) where
  -- row j, from its first place up to the next row's
  abbrev pub row : List ℕ
  row = take (j * n + n - j * n) (drop (j * n) d)

  pub row_within : j < n → j * n + n ≤ n * n
  row_within h = omega (arith, mul-le-mul_right n h, suc-mul j n)

  pub row_length : j < n → length d ≡ n * n → length row ≡ n
  row_length h e =
      length-take-le (j * n + n - j * n) (drop (j * n) d) (omega (arith, row_within h, length-drop (j * n) d)) ∙ omega arith

  pub row_cell : (i : ℕ) → i < n → cell row i ≡ at n d j i
  row_cell i h = get_or-take (j * n + n - j * n) (drop (j * n) d) i 0 (omega arith) ∙ get_or-drop (j * n) d i 0
