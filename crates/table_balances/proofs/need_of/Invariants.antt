-- What the sectors so far buy.
use Rattle.std.proofs.Common.{◌≡◌, ◌*◌, ◌≤◌}
use Rattle.model.specs.Numbers.{sum, at}
use Rattle.model.specs.Checks.{amount_limit}
use Rattle.table_balances.proofs.need_of.Given as goal

abbrev pub invariant-loop-flow : goal.invariant-loop-flow
invariant-loop-flow l = (l.sum ≡ sum l.flow-index (at l.table.sectors l.table.flows.now l.i)) × (l.sum ≤ l.flow-index * amount_limit)
