-- What the inner functions ask and promise. The contract of no public call cites it.
use Rattle.std.specs.Prelude.{ℕ}
use Rattle.model.specs.Numbers.{Cells, Sheet}
use Rattle.model.specs.Rounds.{impact, impact_rounds}
use Rattle.model.specs.Checks.{Report, both_settle}
use Rattle.model.specs.Promises.{NowhereBelow}
use Rattle.theory_rounds.specs.Search.{Settleable, Solved}
use Rattle.cells.specs.declared.matrix.Matrix.{Matrix}

-- both demands can be settled along the matrix, and the second is nowhere below the first
abbrev pub BothSettleable : (d : Matrix) (before after : Cells) → Type 0
BothSettleable d before after = Settleable d.sectors d.cells.now before × Settleable d.sectors d.cells.now after × NowhereBelow d.sectors before after

-- question 9 of two starts, with the rise of what they settle at
abbrev pub BothSettled : (n : ℕ) (c : Sheet) (s t : Cells) (budget : ℕ) (r : Report) (out work : Cells) → Type 0
BothSettled n c s t budget = Solved (both_settle n c s t budget) (impact_rounds n c s t budget) (impact n c s t budget) n n
