-- The columns before column c are written.
use Rattle.std.proofs.Common.{map}
use Rattle.model.specs.Table.{sector_limit}
use Rattle.file_layout.proofs.TableLaws.{Words}
use Rattle.file_layout.proofs.put_columns.Given as goal

abbrev pub invariant-loop-c : goal.invariant-loop-c
invariant-loop-c l = Words sector_limit (map (λ s. s.now) l.columns) l.at l.fn.file l.c l.file l.next
