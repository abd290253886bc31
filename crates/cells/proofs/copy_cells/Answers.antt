use Rattle.std.proofs.Common.{refl, arith}
use Rattle.theory.proofs.Lists.{agreed}
use Rattle.cells.proofs.copy_cells.Goals as goal

pub returns : goal.returns
returns c =
    let p = c.loop-i.invariant in
    agreed _ _ _ _ p.whole refl (omega arith) p.agree
