-- All cells are the demands of their sectors. Assumes nothing.
use native.Mathlib.Omega.{arith}
use Rattle.model.specs.Table.{domestic_demand}
use Rattle.theory.proofs.Lists.{front_done}
use Rattle.table_demand.proofs.fill_demand.Goals as goal

pub returns : goal.returns
unfolding domestic_demand
returns c = front_done c.loop-i.invariant (omega arith)
