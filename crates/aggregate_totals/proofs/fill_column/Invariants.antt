-- The cells below k are the totals of their groups.
use Rattle.std.proofs.Common.{length}
use Rattle.model.specs.Numbers.{cell}
use Rattle.model.specs.Aggregation.{group_total}
use Rattle.theory.proofs.Lists.{Front}
use Rattle.aggregate_totals.proofs.fill_column.Given as goal

abbrev pub invariant-loop-k : goal.invariant-loop-k
invariant-loop-k l = Front (length l.groups) (λ k. group_total (length l.column) (cell l.groups k) (cell l.column)) l.merged l.k
