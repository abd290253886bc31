-- All cells are the shares of their sectors. Assumes nothing.
use native.Mathlib.Omega.{arith}
use Rattle.model.specs.Calls.{import_coefficients}
use Rattle.model.specs.Table.{import_coefficient}
use Rattle.theory.proofs.Lists.{front_done}
use Rattle.table_sheets.proofs.fill_import_shares.Goals as goal

pub returns : goal.returns
unfolding import_coefficients import_coefficient
returns c = front_done c.loop-i.invariant (omega arith)
