-- What the checks of a table say of it, for helpers that run after them.
use Rattle.std.specs.Prelude.{◌≡◌, ℕ, ◌*◌, ◌≤◌, length}
use Rattle.model.specs.Numbers.{cell}
use Rattle.model.specs.Table.{Table, column, sector_limit}
use Rattle.model.specs.Checks.{amount_limit}
use Rattle.theory.specs.Slices.{Columns}

-- questions 1 and 2 pass
pub record TableSizes (t : Table) : Type 0 where
  pub some : 1 ≤ t.sectors
  pub few : t.sectors ≤ sector_limit
  pub flows : length t.flows ≡ t.sectors * t.sectors
  pub columns : Columns t.sectors t.columns

-- question 3 passes; past the end of a slice a cell is 0
pub record TableAmounts (t : Table) : Type 0 where
  pub flows : (k : ℕ) → cell t.flows k ≤ amount_limit
  pub columns : (c k : ℕ) → cell (column t c) k ≤ amount_limit
