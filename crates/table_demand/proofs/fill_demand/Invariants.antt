-- The cells below i are the demands of their sectors.
use Rattle.std.proofs.Common.{◌+◌, ◌-◌}
use Rattle.model.specs.Numbers.{cell, one}
use Rattle.model.specs.Table.{portion, adjusted_exports}
use Rattle.theory.proofs.Lists.{Front}
use Rattle.table_demand.proofs.fill_demand.Given as goal

abbrev pub invariant-loop-i : goal.invariant-loop-i
invariant-loop-i l = Front l.n (λ i. portion (one - cell l.m i) (cell l.final_demand i) + adjusted_exports l.exports l.adjustment i) l.f l.i
