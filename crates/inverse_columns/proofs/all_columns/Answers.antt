-- The first column that does not settle, and what stands in the sheet where all do.
use Rattle.std.proofs.Common.{arith}
use Rattle.inverse_columns.proofs.Leontief.{filled_stop, filled_all}
use Rattle.inverse_columns.proofs.all_columns.Goals as goal

pub returns-in-Err-clause-answer : goal.returns-in-Err-clause-answer
returns-in-Err-clause-answer c =
    let a = c.args in
    rw c.at.ensures (filled_stop a.d.now.sectors a.d.now.cells.now a.budget c.loop-j.invariant c.one_column.ensures (omega arith) c.in-Err.is)

pub returns-clause-answer : goal.returns-clause-answer
returns-clause-answer c = (filled_all c.args.d.now.sectors c.args.d.now.cells.now c.args.budget c.loop-j.invariant c.requires.accepted.some (omega arith) (omega arith)).0

pub returns-clause-sheets : goal.returns-clause-sheets
returns-clause-sheets c = (filled_all c.args.d.now.sectors c.args.d.now.cells.now c.args.budget c.loop-j.invariant c.requires.accepted.some (omega arith) (omega arith)).1
