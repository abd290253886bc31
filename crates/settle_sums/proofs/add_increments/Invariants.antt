-- The sums of the blocks so far are raised, and the others still as they were.
use Rattle.std.proofs.Common.{◌*◌}
use Rattle.settle_sums.specs.Sums.{raised}
use Rattle.theory.proofs.Lists.{Over}
use Rattle.settle_sums.proofs.add_increments.Given as goal

abbrev pub invariant-loop-block : goal.invariant-loop-block
invariant-loop-block l = Over l.sums (4 * l.block) (raised l.d l.increments l.fn.sums) l.fn.sums
