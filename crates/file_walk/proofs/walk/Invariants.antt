-- The loop stands where the walk stands, and the cells and the marks are those of the cells named so far. Assumes nothing.
use Rattle.std.proofs.Common.{◌-◌, length}
use Rattle.file_walk.proofs.Loops.{Walking}
use Rattle.file_walk.proofs.walk.Given as goal

abbrev pub invariant-loop-step : goal.invariant-loop-step
invariant-loop-step l = Walking l.file l.n l.cells l.marks l.at

abbrev pub decreases-loop-step : goal.decreases-loop-step
decreases-loop-step l = length l.file - l.at
