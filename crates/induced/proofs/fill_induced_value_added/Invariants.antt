-- The cells below j are those of the definition.
use Rattle.model.specs.Numbers.{cell}
use Rattle.model.specs.Table.{portion}
use Rattle.theory.proofs.Lists.{Front}
use Rattle.induced.proofs.fill_induced_value_added.Given as goal

abbrev pub invariant-loop-j : goal.invariant-loop-j
invariant-loop-j l = Front l.n (λ k. portion (cell l.v k) (cell l.y k)) l.out l.j
