-- At first the sums are 0, and all of the start is increment.
use Rattle.settle_sums.proofs.Carrying.{carried_start}
use Rattle.settle_loop.proofs.run_rows.Goals as goal

pub run_turns-requires-clause-carried : goal.run_turns-requires-clause-carried
run_turns-requires-clause-carried c =
    let a = c.args in
    rw (c.copy_cells.ensures, c.requires.begun.0) (carried_start a.d.now a.start.now c.requires.settleable.few)
