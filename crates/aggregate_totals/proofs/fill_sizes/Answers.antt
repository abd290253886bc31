-- All cells are the set positions of their words. Assumes nothing.
use native.Mathlib.Omega.{arith}
use Rattle.theory.proofs.Lists.{front_done}
use Rattle.aggregate_totals.proofs.fill_sizes.Goals as goal

pub returns : goal.returns
returns c = front_done c.loop-k.invariant (omega arith)
