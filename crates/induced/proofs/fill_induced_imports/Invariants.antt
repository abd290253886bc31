-- The cells below i are those of the definition.
use Rattle.std.proofs.Common.{◌+◌}
use Rattle.model.specs.Numbers.{cell}
use Rattle.model.specs.Table.{portion}
use Rattle.model.specs.Rounds.{intermediate}
use Rattle.theory.proofs.Lists.{Front}
use Rattle.cells.specs.Sheets.{sheet_of}
use Rattle.induced.proofs.fill_induced_imports.Given as goal

abbrev pub invariant-loop-i : goal.invariant-loop-i
invariant-loop-i l = Front l.a.sectors (λ k. portion (cell l.m k) (intermediate l.a.sectors (sheet_of l.a) (cell l.y) k + cell l.final_demand k)) l.out l.i
