use Rattle.std.proofs.Common.{◌+◌, ◌*◌}
use Rattle.model.specs.Checks.{within}
use Rattle.theory.proofs.Lists.{All}
use Rattle.checks.proofs.matrix_within.Given as goal

-- no cell of the rows so far is over
abbrev pub invariant-loop-i : goal.invariant-loop-i
invariant-loop-i l = All (within l.limit l.x) (l.i * l.n)

-- nor one of this row so far
abbrev pub invariant-loop-j : goal.invariant-loop-j
invariant-loop-j l = All (within l.limit l.x) (l.i * l.n + l.j)
