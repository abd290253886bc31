-- How many of the groups so far the sector is in.
use Rattle.std.proofs.Common.{◌≡◌, ◌≤◌}
use Rattle.model.specs.Numbers.{sum, bit, cell}
use Rattle.aggregate_checks.proofs.count_groups.Given as goal

abbrev pub invariant-loop-group : goal.invariant-loop-group
invariant-loop-group l = (l.count ≡ sum l.group-index (λ k. bit (cell l.groups k) l.sector)) × (l.count ≤ l.group-index)
