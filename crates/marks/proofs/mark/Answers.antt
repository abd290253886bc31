-- A mark sets its own bit and no other. Assumes nothing.
use Rattle.marks.proofs.MarkLaws.{marked_more}
use Rattle.marks.proofs.mark.Goals as goal

pub returns : goal.returns
returns c = marked_more c.args.marks.now c.args.word c.args.position c.requires.0 c.requires.1
