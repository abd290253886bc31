-- The cells below k are those of the definition.
use Rattle.model.specs.Numbers.{cell}
use Rattle.theory.proofs.Lists.{Front}
use Rattle.permute_cells.proofs.fill_column.Given as goal

abbrev pub invariant-loop-k : goal.invariant-loop-k
invariant-loop-k l = Front l.n (λ k. cell l.column (cell l.order k)) l.permuted l.k
