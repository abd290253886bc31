-- A word whose bits at n and above are moved down to 0 has none there. Assumes nothing.
use native.Mathlib.Omega.{arith}
use Rattle.aggregate_checks.proofs.WordLaws.{moved}
use Rattle.aggregate_checks.proofs.word_fits.Goals as goal

pub returns-then-group-gt0 : goal.returns-then-group-gt0
returns-then-group-gt0 c = moved c.args.n c.args.group (omega arith)
