-- Sums of a matrix with small cells, and of its rows as parts of its cells. Assumes nothing.
use mathlib.Core.List.{List}
use mathlib.Core.Path.{◌≡◌, refl, sym, ap, ap₂, ◌∙◌}
use Prim.Native.Nat.{ℕ, zero, suc, ◌+◌, ◌*◌, ◌-◌, ◌/◌, ◌≤◌, ◌<◌}
use native.Mathlib.Nat.{le_trans, le_refl}
use native.Mathlib.Numerals.{add-one}
use native.Mathlib.Omega.{arith}
use lib.ListN.{length, take, drop}
use Rattle.std.specs.List.{sum as list_sum}
use Rattle.std.proofs.lemmas.List.{take_all}
use Rattle.std.proofs.lemmas.List.Sums.{sum_by_more}
use Rattle.model.specs.Numbers.{one, sum, cell, at, tabulate, transposed, column_sum}
use Rattle.model.specs.Table.{sector_limit}
use Rattle.inverse_ratios.specs.Columns.{inverse_cell_limit, inverse_column_limit, Dispersed, Summed, against_all}
use Rattle.model.specs.Rounds.{dispersion}
use Rattle.theory.proofs.Lists.{tabulate_cong}
use Rattle.theory.proofs.Sums.{sum_most, sum-cell, sum_cong}
use Rattle.cells.proofs.RowLaws.{row, row_length, row_cell}

-- std's sum of a list is that of its cells
sum_taken : (l : List ℕ) (k : ℕ) → k ≤ length l → list_sum (take k l) ≡ sum k (cell l)
sum_taken l zero h = refl
sum_taken l (suc k) h = rw (← add-one k) (sum_by_more (λ x. x) l k 0 h ∙ ap (λ (s : ℕ). s + cell l k) (sum_taken l k (omega arith)))

pub list_sum_is : (l : List ℕ) → list_sum l ≡ sum (length l) (cell l)
list_sum_is l = ap list_sum (sym (take_all (length l) l (le_refl _))) ∙ sum_taken l (length l) (le_refl _)

module _ {n : ℕ} {c : ℕ → ℕ → ℕ} (D : Dispersed n c) where
  pub column_small : (j : ℕ) → j < n → column_sum n c j ≤ inverse_column_limit
  column_small j h =
      let few = D.few in
      omega (arith, sum_most n inverse_cell_limit {f = transposed c j} (λ i l. D.small i j l h))

  -- the first column and the first row are not 0
  pub column_positive : 1 ≤ column_sum n c 0
  column_positive = le_trans D.positive (sum-cell n (transposed c 0) 0 D.some)

  pub turned : Dispersed n (transposed c)
  turned = record { some = D.some; few = D.few; small = λ i j h l. D.small j i l h; positive = D.positive }

-- sums that are set against one another: their total fits, and is not 0
module _ {n : ℕ} {sums : List ℕ} (S : Summed n sums) where
  pub total_is : list_sum sums ≡ sum n (cell sums)
  total_is = list_sum_is sums ∙ ap (λ (k : ℕ). sum k (cell sums)) S.sectors

  pub total_small : list_sum sums ≤ sector_limit * inverse_column_limit
  total_small = let few = S.few in omega (arith, total_is, sum_most n inverse_column_limit {f = cell sums} S.small)

-- the ratios of the sums of a sheet
pub ratios_of : (n : ℕ) (sums : List ℕ) (c : ℕ → ℕ → ℕ) → ((k : ℕ) → k < n → cell sums k ≡ column_sum n c k)
    → tabulate n (against_all n sums) ≡ dispersion n c
unfolding dispersion
ratios_of n sums c same = tabulate_cong n (λ k h. ap₂ (λ (s t : ℕ). s * n * one / t) (same k h) (sum_cong n {f = cell sums} {g = column_sum n c} same))

-- the sum of a row, as the part of the cells that is lent
pub row_total : (n : ℕ) (d : List ℕ) (i : ℕ) → length d ≡ n * n → i < n
    → list_sum (take ((i + 1) * n - i * n) (drop (i * n) d)) ≡ column_sum n (transposed (at n d)) i
row_total n d i e h =
    let end : (i + 1) * n ≡ i * n + n = omega arith in
    ap (λ (k : ℕ). list_sum (take (k - i * n) (drop (i * n) d))) end ∙ list_sum_is (row n i d)
    ∙ ap (λ (k : ℕ). sum k (cell (row n i d))) (row_length n i d h e) ∙ sum_cong n {f = cell (row n i d)} {g = at n d i} (row_cell n i d)
