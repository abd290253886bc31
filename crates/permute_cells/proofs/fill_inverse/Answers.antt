-- All cells are the places of their sectors. Assumes nothing.
use native.Mathlib.Omega.{arith}
use Rattle.model.specs.Permutation.{inverse_list}
use Rattle.theory.proofs.Lists.{front_done}
use Rattle.permute_cells.proofs.fill_inverse.Goals as goal

pub returns : goal.returns
unfolding inverse_list
returns c = front_done c.loop-s.invariant (omega arith)
