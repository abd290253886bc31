-- The columns before j stand in the sheet.
use Rattle.inverse_columns.proofs.Leontief.{Filled}
use Rattle.inverse_columns.proofs.all_columns.Given as goal

abbrev pub invariant-loop-j : goal.invariant-loop-j
invariant-loop-j l = Filled l.d.sectors l.d.cells.now l.budget l.j l.sheet l.most
