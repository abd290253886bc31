-- The cells below i are those of the demand.
use Rattle.std.specs.Prelude.{pos}
use Rattle.std.proofs.Math.IntN.{sub_ℕ}
use Rattle.model.specs.Numbers.{cell}
use Rattle.model.specs.Rounds.{intermediate}
use Rattle.theory.proofs.Lists.{FrontOf}
use Rattle.cells.specs.Sheets.{sheet_of}
use Rattle.implied.proofs.subtract.Given as goal

abbrev pub invariant-loop-i : goal.invariant-loop-i
invariant-loop-i l = FrontOf (pos 0) l.d.sectors (λ k. sub_ℕ (cell l.y k) (intermediate l.d.sectors (sheet_of l.d) (cell l.y) k)) l.out l.i
