-- The sums from row i to before this one are written.
use Rattle.std.proofs.Common.{◌-◌}
use Rattle.settle_sums.specs.Sums.{Written, raised}
use Rattle.settle_sums.proofs.add_rest.Given as goal

abbrev pub invariant-loop-row : goal.invariant-loop-row
invariant-loop-row l = Written l.sums l.i (l.row - l.i) (raised l.d l.increments l.fn.sums) l.fn.sums
