-- The cells below k are those of the definition.
use Rattle.std.proofs.Common.{◌*◌, ◌/◌, ◌%◌}
use Rattle.model.specs.Numbers.{at, cell}
use Rattle.theory.proofs.Lists.{Front}
use Rattle.permute_cells.proofs.fill_flows.Given as goal

abbrev pub invariant-loop-k : goal.invariant-loop-k
invariant-loop-k l = Front (l.n * l.n) (λ k. at l.n l.x (cell l.order (k / l.n)) (cell l.order (k % l.n))) l.permuted l.k
