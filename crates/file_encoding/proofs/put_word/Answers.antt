-- `file_encoding::put_word` meets its contract: a cell of 0 writes nothing, another its record.
use Rattle.std.proofs.Common.{◌+◌, [], sym, ◌∙◌, add-zero}
use Rattle.model.specs.Numbers.{cell}
use Rattle.model.specs.File.{encode}
use Rattle.theory.proofs.Stores.{go_on}
use Rattle.theory_files.proofs.Encoding.{made}
use Rattle.file_encoding.proofs.WordLaws.{word_from, word_zero, word_more}
use Rattle.file_encoding.proofs.put_word.Goals as goal
use Rattle.file_encoding.proofs.put_word.Goals.{then-amount-ne0, else-amount-ne0}

pub loop-position-preserved : goal.loop-position-preserved
loop-position-preserved c =
    let word = c.args.word in
    let cells = c.args.cells.now in
    let i = c.loop-position.position in
    let later = word_from word cells (i + 1) in
    elim c.if-amount-ne0.branch [
      | then-amount-ne0 w ↦
          go_on (encode (made word i (cell cells i))) later (word_more word cells i c.loop-position-test.true w.if-amount-ne0.true) c.loop-position.invariant
          (w.next-is ∙ w.put_record-next.ensures.value, w.file-is ∙ w.put_record-next.ensures.file_after)
      | else-amount-ne0 w ↦
          go_on [] later (word_zero word cells i c.loop-position-test.true w.if-amount-ne0.false) c.loop-position.invariant
          (w.next-is ∙ sym (add-zero c.loop-position.next), w.file-is)
    ]
