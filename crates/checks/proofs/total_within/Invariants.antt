use Rattle.std.proofs.Common.{◌≡◌, ◌≤◌}
use Rattle.model.specs.Numbers.{sum, cell}
use Rattle.model.specs.Checks.{production_limit, production_total}
use Rattle.theory.proofs.Verdicts.{Scan}
use Rattle.checks.proofs.total_within.Given as goal

-- the total of the amounts so far, which was never over
abbrev pub invariant-loop-i : goal.invariant-loop-i
invariant-loop-i l = (l.total ≡ sum l.i (cell l.y)) × (l.total ≤ production_limit) × Scan (production_total l.n l.y) l.i
