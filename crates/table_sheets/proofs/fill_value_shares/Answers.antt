-- All cells are the shares of their sectors. Assumes nothing.
use native.Mathlib.Omega.{arith}
use Rattle.model.specs.Calls.{value_added_coefficients}
use Rattle.model.specs.Table.{value_added_coefficient}
use Rattle.theory.proofs.Lists.{front_done}
use Rattle.table_sheets.proofs.fill_value_shares.Goals as goal

pub returns : goal.returns
unfolding value_added_coefficients value_added_coefficient
returns c = front_done c.loop-j.invariant (omega arith)
