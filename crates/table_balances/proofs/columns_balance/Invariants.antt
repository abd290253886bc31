-- What the sectors before i sell to sector j.
use Rattle.std.proofs.Common.{◌≡◌, ◌*◌, ◌≤◌}
use Rattle.model.specs.Lent.{table_lent}
use Rattle.model.specs.Numbers.{sum, at, transposed}
use Rattle.model.specs.Checks.{amount_limit, column_balances}
use Rattle.theory.proofs.Verdicts.{Scan}
use Rattle.table_balances.proofs.columns_balance.Given as goal

-- every column so far balances
abbrev pub invariant-loop-j : goal.invariant-loop-j
invariant-loop-j l = Scan (column_balances (table_lent l.table)) l.j

-- the sum of this column's cells so far
abbrev pub invariant-loop-i : goal.invariant-loop-i
invariant-loop-i l = (l.sum ≡ sum l.i (transposed (at l.n l.table.flows.now) l.j)) × (l.sum ≤ l.i * amount_limit)
