-- Each file takes at least its length, so less of the input is left.
use Rattle.std.proofs.Common.{length}
use Rattle.test_pages.proofs.print_cases.Given as goal

abbrev pub decreases-loop-file : goal.decreases-loop-file
decreases-loop-file g l = length l.input
