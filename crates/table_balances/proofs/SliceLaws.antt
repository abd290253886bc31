-- What questions 1 to 3 say of a table, of the slices that the code holds it in. Assumes nothing.
use native.Mathlib.Omega.{arith}
use Rattle.model.specs.Lent.{table_lent}
use Rattle.model.specs.declared.Table.{Table}
use Rattle.theory_tables.specs.Tables.{TableSizes, TableAmounts}
use Rattle.table_balances.specs.Slices.{SlicesLent}

pub slices_lent : {t : Table} → TableSizes (table_lent t) → TableAmounts (table_lent t) → SlicesLent t
slices_lent z a = record {
  some = z.some;
  flows = record { few = z.few; size = z.flows; amounts = a.flows };
  final_demand = record { size = z.columns 0 (omega arith); amounts = a.columns 0 };
  exports = record { size = z.columns 1 (omega arith); amounts = a.columns 1 };
  imports = record { size = z.columns 2 (omega arith); amounts = a.columns 2 };
  value_added = record { size = z.columns 3 (omega arith); amounts = a.columns 3 };
  production = record { size = z.columns 4 (omega arith); amounts = a.columns 4 };
  adjustment = record { size = z.columns 5 (omega arith); amounts = a.columns 5 };
}
