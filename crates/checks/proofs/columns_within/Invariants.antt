use Rattle.std.proofs.Common.{◌≡◌, ◌≤◌}
use Rattle.model.specs.Numbers.{sum, at, transposed}
use Rattle.model.specs.Checks.{column_limit, column_sums}
use Rattle.theory.proofs.Verdicts.{Scan}
use Rattle.checks.proofs.columns_within.Given as goal

-- no column so far is over
abbrev pub invariant-loop-j : goal.invariant-loop-j
invariant-loop-j l = Scan (column_sums l.n (at l.n l.d)) l.j

-- the sum of this column's cells so far, which is not over
abbrev pub invariant-loop-i : goal.invariant-loop-i
invariant-loop-i l = (l.sum ≡ sum l.i (transposed (at l.n l.d) l.j)) × (l.sum ≤ column_limit)
