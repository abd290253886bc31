-- The cells below k are the set positions of their words.
use Rattle.std.proofs.Common.{length}
use Rattle.model.specs.Numbers.{cell, set_positions}
use Rattle.theory.proofs.Lists.{Front}
use Rattle.aggregate_totals.proofs.fill_sizes.Given as goal

abbrev pub invariant-loop-k : goal.invariant-loop-k
invariant-loop-k l = Front (length l.groups) (λ k. set_positions (cell l.groups k)) l.sizes l.k
