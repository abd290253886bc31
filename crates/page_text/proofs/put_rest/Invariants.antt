-- The fields from the index on are left.
use Rattle.std.proofs.Common.{drop, map}
use Rattle.model.specs.Text.{decimal, rest}
use Rattle.theory.proofs.Stores.{Begun}
use Rattle.page_text.proofs.put_rest.Given as goal

abbrev pub invariant-loop-amount : goal.invariant-loop-amount
invariant-loop-amount l = Begun (rest (map decimal l.cells)) l.at l.fn.out l.out l.next (rest (map decimal (drop l.amount-index l.cells)))
