-- What is used was asked by then. Assumes nothing.
use Rattle.model.specs.Lent.{table_lent}
use Rattle.model.specs.Checks.{table_amounts}
use Rattle.theory.proofs.Verdicts.{answered_pass}
use Rattle.theory_tables.proofs.Tables.{table_amounts_lem}
use Rattle.table_balances.proofs.SliceLaws.{slices_lent}
use Rattle.table_checks.proofs.check_contents.Goals as goal

-- question 3 passed
pub check_balances-requires : goal.check_balances-requires
check_balances-requires c =
    let t = table_lent c.args.table.now in
    slices_lent c.requires (table_amounts_lem t (answered_pass (table_amounts t) c.check_amounts.ensures c.in_ok-check_amounts.was))
