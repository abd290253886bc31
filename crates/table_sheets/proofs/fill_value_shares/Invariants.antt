-- The cells below j are the shares of their sectors.
use Rattle.model.specs.Numbers.{cell}
use Rattle.model.specs.Table.{share}
use Rattle.theory.proofs.Lists.{Front}
use Rattle.table_sheets.proofs.fill_value_shares.Given as goal

abbrev pub invariant-loop-j : goal.invariant-loop-j
invariant-loop-j l = Front l.table.sectors (λ j. share (cell l.table.value_added.now j) (cell l.table.production.now j)) l.v l.j
