-- The place of a cell in a matrix of n rows and n columns, and a matrix that is known cell by cell. Assumes nothing.
use mathlib.Core.List.{List}
use mathlib.Core.Path.{◌≡◌, sym, ap, ap₂, ◌∙◌}
use Prim.Native.Nat.{ℕ, ◌+◌, ◌*◌, ◌/◌, ◌%◌, ◌≤◌, ◌<◌}
use native.Mathlib.Nat.{le_refl, div-add-mod', div-lt_iff_lt-mul, mod-lt}
use lib.Arith.{digits_div, digits_mod}
use lib.ListN.{length}
use Rattle.model.specs.Numbers.{cell, at, matrix}
use Rattle.theory.proofs.Sums.{cell_in}
use Rattle.theory.proofs.Lists.{cell-tabulate, tabulated}

-- a place has one row and one column
pub place_once : (n i j r k : ℕ) → j < n → k < n → r * n + k ≡ i * n + j → (r ≡ i) × (k ≡ j)
place_once n i j r k h l e = (
  sym (digits_div r l) ∙ ap (λ (p : ℕ). p / n) e ∙ digits_div i h,
  sym (digits_mod r l) ∙ ap (λ (p : ℕ). p % n) e ∙ digits_mod i h,
)

-- place k is in row k / n and column k % n
pub place_row : (n k : ℕ) → 1 ≤ n → k < n * n → k / n < n
place_row n k some h = (div-lt_iff_lt-mul some).1 h

pub place_column : (n k : ℕ) → 1 ≤ n → k % n < n
place_column n k some = mod-lt k some

pub place_cell : (n : ℕ) (x : List ℕ) (k : ℕ) → at n x (k / n) (k % n) ≡ cell x k
place_cell n x k = ap (cell x) (div-add-mod' k n)

module _ (n : ℕ) (c : ℕ → ℕ → ℕ) where
  pub matrix-cell : (i j : ℕ) → i < n → j < n → at n (matrix n c) i j ≡ c i j
  matrix-cell i j h l =
      cell-tabulate (n * n) (λ k. c (k / n) (k % n)) (i * n + j) (cell_in n i j h l) ∙ ap₂ c (digits_div i l) (digits_mod i l)

  -- n × n cells that are those of c, row by row and column by column, are its matrix
  pub matrix_made : (l : List ℕ) → 1 ≤ n → length l ≡ n * n → ((i j : ℕ) → i < n → j < n → at n l i j ≡ c i j) → l ≡ matrix n c
  matrix_made l some e all =
      tabulated (n * n) (n * n) (λ k. c (k / n) (k % n)) l e (le_refl (n * n))
      (λ k h. sym (place_cell n l k) ∙ all (k / n) (k % n) (place_row n k some h) (place_column n k some))
