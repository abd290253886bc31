-- The lines of the sectors before i stand.
use Rattle.page_lines.specs.Lent.{line_lent}
use Rattle.page_lines.proofs.LineLaws.{Lines}
use Rattle.page_lines.proofs.put_sectors.Given as goal

abbrev pub invariant-loop-i : goal.invariant-loop-i
invariant-loop-i l = Lines (line_lent l.figures) l.i l.at l.fn.out l.out l.next
