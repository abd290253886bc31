-- The cells below i are what the group buys of their sectors.
use Rattle.model.specs.Numbers.{at}
use Rattle.model.specs.Aggregation.{group_total}
use Rattle.theory.proofs.Lists.{Front}
use Rattle.aggregate_totals.proofs.fill_purchases.Given as goal

abbrev pub invariant-loop-i : goal.invariant-loop-i
invariant-loop-i l = Front l.n (λ i. group_total l.n l.group (at l.n l.x i)) l.purchases l.i
