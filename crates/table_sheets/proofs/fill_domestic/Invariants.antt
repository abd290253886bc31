-- The cells below k are those of the definition.
use Rattle.std.proofs.Common.{◌*◌, ◌-◌, ◌/◌, ◌%◌}
use Rattle.model.specs.Numbers.{at, cell, one}
use Rattle.model.specs.Table.{portion}
use Rattle.theory.proofs.Lists.{Front}
use Rattle.table_sheets.proofs.fill_domestic.Given as goal

abbrev pub invariant-loop-k : goal.invariant-loop-k
invariant-loop-k l = Front (l.n * l.n) (λ k. portion (one - cell l.m (k / l.n)) (at l.n l.a (k / l.n) (k % l.n))) l.d l.k
