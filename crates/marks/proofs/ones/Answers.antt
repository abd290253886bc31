-- The machine counts the set positions. Assumes nothing.
use Rattle.marks.proofs.OneLaws.{ones_set}
use Rattle.marks.proofs.ones.Goals as goal

pub returns : goal.returns
returns c = ones_set c.args.word c.ranges.word.fits
