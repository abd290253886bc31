-- Bounds that keep the ratios of a sheet within 64 bits, and sums that are set against one another. They are no part of the papers.
use Rattle.std.specs.Prelude.{◌≡◌, ℕ, ◌*◌, ◌/◌, ◌≤◌, ◌<◌, length}
use Rattle.model.specs.Numbers.{Cells, Sheet, one, sum, cell}
use Rattle.model.specs.Table.{sector_limit}

-- no cell of an inverse is larger: 20 times a total of one in each of 40 sectors; nor a column of 40 such cells
abbrev pub inverse_cell_limit : ℕ
inverse_cell_limit = 20 * sector_limit * one

abbrev pub inverse_column_limit : ℕ
inverse_column_limit = sector_limit * inverse_cell_limit

-- of 1 to 40 sectors; no cell is large, and the first is not 0
pub record Dispersed (n : ℕ) (c : Sheet) : Type 0 where
  pub some : 1 ≤ n
  pub few : n ≤ sector_limit
  pub small : (i j : ℕ) → i < n → j < n → c i j ≤ inverse_cell_limit
  pub positive : 1 ≤ c 0 0

-- the sums of 1 to 40 sectors; none is large, and the first is not 0
pub record Summed (n : ℕ) (sums : Cells) : Type 0 where
  pub some : 1 ≤ n
  pub few : n ≤ sector_limit
  pub sectors : length sums ≡ n
  pub small : (j : ℕ) → j < n → cell sums j ≤ inverse_column_limit
  pub positive : 1 ≤ cell sums 0

-- a sum, times the sectors and one, against all of them
abbrev pub against_all : (n : ℕ) → Cells → ℕ → ℕ
against_all n sums j = cell sums j * n * one / sum n (cell sums)
