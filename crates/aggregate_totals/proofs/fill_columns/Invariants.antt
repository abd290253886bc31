-- The columns before l are those of the merged flows.
use Rattle.std.proofs.Common.{◌≡◌, ℕ, ◌<◌, [], length}
use Rattle.model.specs.Numbers.{at}
use Rattle.model.specs.Table.{table_of}
use Rattle.model.specs.Aggregation.{merged_flow}
use Rattle.aggregate_totals.proofs.fill_columns.Given as goal

abbrev pub invariant-loop-l : goal.invariant-loop-l
invariant-loop-l l = (k j : ℕ) → k < length l.groups → j < l.l → at (length l.groups) l.merged k j ≡ merged_flow (table_of l.n l.x []) l.groups k j
