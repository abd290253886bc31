-- `file_layout::put_columns` meets its contract: one more column is written.
use Rattle.std.proofs.Common.{◌+◌, ap, arith}
use Rattle.std.proofs.lemmas.List.{length-map}
use Rattle.model.specs.Table.{sector_limit}
use Rattle.file_layout.proofs.TableLaws.{word_encoded, words_room, words_more, column_is}
use Rattle.file_layout.proofs.put_columns.Goals as goal

pub put_word-next-requires-clause-sizes : goal.put_word-next-requires-clause-sizes
put_word-next-requires-clause-sizes c =
    let i = c.loop-c.c in
    (omega arith, rw (column_is c.args.columns.now i) (c.requires.columns i (omega arith)).0)

pub put_word-next-requires-clause-amounts : goal.put_word-next-requires-clause-amounts
put_word-next-requires-clause-amounts c = let i = c.loop-c.c in rw (column_is c.args.columns.now i) (c.requires.columns i (omega arith)).1

pub put_word-next-requires-clause-room : goal.put_word-next-requires-clause-room
put_word-next-requires-clause-room c =
    let i = c.loop-c.c in
    words_room c.loop-c.invariant (omega (arith, length-map c.args.columns.now (λ s. s.now))) (ap (word_encoded (sector_limit + i)) (column_is c.args.columns.now i)) c.requires.room

pub loop-c-preserved : goal.loop-c-preserved
loop-c-preserved c =
    let i = c.loop-c.c in
    words_more c.loop-c.invariant (omega (arith, length-map c.args.columns.now (λ s. s.now))) (ap (word_encoded (sector_limit + i)) (column_is c.args.columns.now i))
    (c.put_word-next.ensures.value, c.put_word-next.ensures.file_after)
