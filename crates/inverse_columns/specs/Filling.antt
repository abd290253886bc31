-- What filling one column of the inverse promises. The contract of no public call cites it.
use Rattle.std.specs.Prelude.{◌≡◌, ℕ, ◌<◌}
use Rattle.model.specs.Numbers.{Cells, at, cell}
use Rattle.model.specs.Rounds.{settled, unit}
use Rattle.model.specs.Checks.{Report, output}
use Rattle.theory_rounds.specs.Search.{nine}

-- the rounds from one in sector j are searched; column j has the amounts, or 0 in every cell, and the columns before it are kept
pub record ColumnFilled (n : ℕ) (d : Cells) (budget j : ℕ) (sheet₀ : Cells) (r : Report) (sheet : Cells) : Type 0 where
  pub answer : r ≡ nine n (at n d) (unit n j) budget
  pub column : (i : ℕ) → i < n → at n sheet i j ≡ cell (output r n (settled n (at n d) (unit n j) budget)) i
  pub kept : (i k : ℕ) → k < j → at n sheet i k ≡ at n sheet₀ i k
