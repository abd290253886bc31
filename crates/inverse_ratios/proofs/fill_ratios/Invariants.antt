-- The sums so far are ratios, and the others still sums.
use Rattle.inverse_ratios.specs.Columns.{against_all}
use Rattle.theory.proofs.Lists.{Over}
use Rattle.inverse_ratios.proofs.fill_ratios.Given as goal

abbrev pub invariant-loop-sum : goal.invariant-loop-sum
invariant-loop-sum l = Over l.sums l.sum-index (against_all l.n l.fn.sums) l.fn.sums
