-- The cells below i are the shares of their sectors.
use Rattle.model.specs.Lent.{table_lent}
use Rattle.model.specs.Numbers.{cell}
use Rattle.model.specs.Table.{need, share}
use Rattle.theory.proofs.Lists.{Front}
use Rattle.table_sheets.proofs.fill_import_shares.Given as goal

abbrev pub invariant-loop-i : goal.invariant-loop-i
invariant-loop-i l = Front l.table.sectors (λ i. share (cell l.table.imports.now i) (need (table_lent l.table) i)) l.m l.i
