-- A mark is a bit of a word. Assumes nothing.
use Rattle.std.proofs.Common.{refl}
use Rattle.model.specs.File.{marked}
use Rattle.marks.proofs.is_marked.Goals as goal

pub returns : goal.returns
unfolding marked
returns c = refl
