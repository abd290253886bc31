-- The cells below k are those of the definition.
use Rattle.std.proofs.Common.{◌*◌, ◌/◌, ◌%◌}
use Rattle.model.specs.Numbers.{at, cell}
use Rattle.model.specs.Table.{share}
use Rattle.theory.proofs.Lists.{Front}
use Rattle.table_sheets.proofs.fill_inputs.Given as goal

abbrev pub invariant-loop-k : goal.invariant-loop-k
invariant-loop-k l =
    let n = l.table.sectors in
    Front (n * n) (λ k. share (at n l.table.flows.now (k / n) (k % n)) (cell l.table.production.now (k % n))) l.a l.k
