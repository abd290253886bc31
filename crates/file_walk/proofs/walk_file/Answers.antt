-- Cells and marks of 0 are those of no named cell. Assumes nothing.
use Rattle.file_walk.proofs.Loops.{keeps_none}
use Rattle.file_walk.proofs.walk_file.Goals as goal

pub walk-requires-clause-kept : goal.walk-requires-clause-kept
walk-requires-clause-kept c = keeps_none _ _ _ c.requires.cells c.requires.marks
