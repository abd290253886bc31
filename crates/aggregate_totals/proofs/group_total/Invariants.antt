-- What the sectors before i have together.
use Rattle.std.proofs.Common.{◌≡◌, ◌*◌, ◌≤◌}
use Rattle.model.specs.Numbers.{sum, bit, cell}
use Rattle.model.specs.Table.{sector_limit}
use Rattle.model.specs.Checks.{amount_limit}
use Rattle.aggregate_totals.proofs.group_total.Given as goal

abbrev pub invariant-loop-i : goal.invariant-loop-i
invariant-loop-i l = (l.total ≡ sum l.i (λ k. bit l.group k * cell l.column k)) × (l.total ≤ l.i * (sector_limit * amount_limit))
