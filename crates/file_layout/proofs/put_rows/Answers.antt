-- `file_layout::put_rows` meets its contract: one more row is written.
use Rattle.std.proofs.Common.{arith}
use Rattle.theory_archives.proofs.Cells.{rows_count}
use Rattle.file_layout.proofs.TableLaws.{words_room, words_more, words_done, row_bytes}
use Rattle.file_layout.proofs.put_rows.Goals as goal

pub put_word-next-requires-clause-room : goal.put_word-next-requires-clause-room
put_word-next-requires-clause-room c =
    let a = c.args in
    words_room c.loop-i.invariant (omega (arith, rows_count a.n a.x.now)) (row_bytes a.n a.x.now c.loop-i.i c.loop-i-test.true) c.requires.room

pub loop-i-preserved : goal.loop-i-preserved
loop-i-preserved c =
    let a = c.args in
    words_more c.loop-i.invariant (omega (arith, rows_count a.n a.x.now)) (row_bytes a.n a.x.now c.loop-i.i c.loop-i-test.true)
    (c.put_word-next.ensures.value, c.put_word-next.ensures.file_after)

pub returns : goal.returns
returns c =
    let a = c.args in
    let w = words_done c.loop-i.invariant (omega (arith, rows_count a.n a.x.now)) in
    record { value = w.0; file_after = w.1 }
