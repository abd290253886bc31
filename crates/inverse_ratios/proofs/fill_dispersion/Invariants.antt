-- The cells below i are the sums that were given.
use Rattle.std.proofs.Common.{ℕ, ◌<◌}
use Rattle.model.specs.Numbers.{cell}
use Rattle.inverse_ratios.proofs.fill_dispersion.Given as goal

abbrev pub invariant-loop-i : goal.invariant-loop-i
invariant-loop-i g l = (k : ℕ) → k < l.i → goal.S-post g l.sum k (cell l.out k)
