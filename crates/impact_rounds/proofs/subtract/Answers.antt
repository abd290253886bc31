-- At the end every cell is a rise.
use Rattle.std.proofs.Common.{arith}
use Rattle.theory.proofs.Lists.{tabulated}
use Rattle.impact_rounds.proofs.subtract.Goals as goal

pub returns : goal.returns
returns c = tabulated c.args.n c.loop-i.i _ c.loop-i.out (omega arith) (omega arith) c.loop-i.invariant.0
