-- What is asked of the slices of a table before they are used: their lengths and amounts.
use Rattle.std.specs.Prelude.{◌≡◌, ℕ, ◌*◌, ◌≤◌, length}
use Rattle.model.specs.Numbers.{Cells, cell}
use Rattle.model.specs.Table.{sector_limit}
use Rattle.model.specs.Checks.{amount_limit}
use Rattle.model.specs.declared.Table.{Table}

-- the flows of a table of n sectors, within the limit of amounts; past the end of a slice a cell is 0
pub record FlowsLent (n : ℕ) (x : Cells) : Type 0 where
  pub few : n ≤ sector_limit
  pub size : length x ≡ n * n
  pub amounts : (k : ℕ) → cell x k ≤ amount_limit

-- a column of it
pub record ColumnLent (n : ℕ) (s : Cells) : Type 0 where
  pub size : length s ≡ n
  pub amounts : (k : ℕ) → cell s k ≤ amount_limit

-- and all of its slices: questions 1 to 3 pass
pub record SlicesLent (t : Table) : Type 0 where
  pub some : 1 ≤ t.sectors
  pub flows : FlowsLent t.sectors t.flows.now
  pub final_demand : ColumnLent t.sectors t.final_demand.now
  pub exports : ColumnLent t.sectors t.exports.now
  pub imports : ColumnLent t.sectors t.imports.now
  pub value_added : ColumnLent t.sectors t.value_added.now
  pub production : ColumnLent t.sectors t.production.now
  pub adjustment : ColumnLent t.sectors t.adjustment.now
