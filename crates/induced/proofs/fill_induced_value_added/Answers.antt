-- A share of a sector's production fits, and at the end every cell is the definition's.
use Rattle.std.proofs.Common.{arith, le_trans}
use Rattle.std.proofs.Math.Nat.{mul-le-mul}
use Rattle.model.specs.Numbers.{cell}
use Rattle.model.specs.Rounds.{induced_value_added}
use Rattle.theory.proofs.Sums.{sum-cell}
use Rattle.theory.proofs.Lists.{front_done}
use Rattle.induced.proofs.fill_induced_value_added.Goals as goal

pub portion_of-requires : goal.portion_of-requires
portion_of-requires c =
    let j = c.loop-j.j in
    let amount = le_trans (sum-cell c.args.n (cell c.args.y.now) j (omega arith)) c.requires.total in
    omega (arith, mul-le-mul (c.requires.shares j (omega arith)) amount)

pub returns : goal.returns
unfolding induced_value_added
returns c = front_done c.loop-j.invariant (omega arith)
