-- What is taken fits a signed word, and at the end every cell is the demand's.
use Rattle.std.proofs.Common.{arith}
use Rattle.model.specs.Numbers.{cell}
use Rattle.model.specs.Rounds.{implied_demand}
use Rattle.theory.proofs.Lists.{front_done}
use Rattle.theory_rounds.proofs.Rounds.{intermediate-within}
use Rattle.cells.specs.Sheets.{sheet_of}
use Rattle.implied.proofs.subtract.Goals as goal

pub difference-requires : goal.difference-requires
difference-requires c =
    let a = c.args in
    let small = c.requires.fits c.loop-i.i (omega arith) in
    (omega (arith, small.1), omega (arith, c.intermediate_use.ensures, small.0, intermediate-within a.d.now.sectors (sheet_of a.d.now) (cell a.y.now) c.loop-i.i))

pub returns : goal.returns
unfolding implied_demand
returns c = front_done c.loop-i.invariant (omega arith)
