-- All cells are those of the definition. Assumes nothing.
use native.Mathlib.Omega.{arith}
use Rattle.theory.proofs.Lists.{front_done}
use Rattle.permute_cells.proofs.fill_column.Goals as goal

pub returns : goal.returns
returns c = front_done c.loop-k.invariant (omega arith)
