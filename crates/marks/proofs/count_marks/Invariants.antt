-- The total is that of the words so far. Assumes nothing.
use Rattle.std.proofs.Common.{◌≡◌}
use Rattle.model.specs.Numbers.{sum, cell, set_positions}
use Rattle.marks.proofs.count_marks.Given as goal

abbrev pub invariant-loop-word : goal.invariant-loop-word
invariant-loop-word l = l.total ≡ sum l.word-index (λ w. set_positions (cell l.marks w))
