-- The cells below i are the rises, those from i on still the second production.
use Rattle.model.specs.Promises.{added}
use Rattle.theory.proofs.Lists.{Over}
use Rattle.impact_rounds.proofs.subtract.Given as goal

abbrev pub invariant-loop-i : goal.invariant-loop-i
invariant-loop-i l = Over l.out l.i (added l.first l.fn.out) l.fn.out
