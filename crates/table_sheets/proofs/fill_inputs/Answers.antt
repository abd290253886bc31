-- All cells are those of the definition. Assumes nothing.
use native.Mathlib.Omega.{arith}
use Rattle.model.specs.Calls.{input_coefficients}
use Rattle.model.specs.Table.{input_coefficient}
use Rattle.theory.proofs.Lists.{front_done}
use Rattle.table_sheets.proofs.fill_inputs.Goals as goal

pub returns : goal.returns
unfolding input_coefficients input_coefficient
returns c = front_done c.loop-k.invariant (omega arith)
