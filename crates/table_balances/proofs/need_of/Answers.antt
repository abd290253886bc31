-- What all sectors buy, and final demand. Assumes nothing.
use mathlib.Core.Path.{ap}
use Prim.Native.Nat.{ℕ, ◌+◌}
use native.Mathlib.Omega.{arith}
use Rattle.model.specs.Numbers.{at, cell}
use Rattle.model.specs.Table.{absorption}
use Rattle.theory.proofs.Sums.{sum_done}
use Rattle.table_balances.proofs.need_of.Goals as goal

pub returns-clause-value : goal.returns-clause-value
unfolding absorption
returns-clause-value c =
    let t = c.args.table.now in
    let l = c.loop-flow in
    ap (λ (s : ℕ). s + cell t.final_demand.now c.args.i) (sum_done (at t.sectors t.flows.now c.args.i) l.flow-index t.sectors l.sum l.invariant.0 (omega arith) (omega arith))
