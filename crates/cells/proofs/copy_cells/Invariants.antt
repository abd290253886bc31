use Rattle.std.proofs.Common.{length}
use Rattle.model.specs.Numbers.{cell}
use Rattle.theory.proofs.Lists.{Front}
use Rattle.cells.proofs.copy_cells.Given as goal

-- the cells so far are those of src
abbrev pub invariant-loop-i : goal.invariant-loop-i
invariant-loop-i l = Front (length l.src) (cell l.src) l.dst l.i
