-- The rows before row i are written.
use Rattle.model.specs.Writer.{rows}
use Rattle.file_layout.proofs.TableLaws.{Words}
use Rattle.file_layout.proofs.put_rows.Given as goal

abbrev pub invariant-loop-i : goal.invariant-loop-i
invariant-loop-i l = Words 0 (rows l.n l.x) l.at l.fn.file l.i l.file l.next
