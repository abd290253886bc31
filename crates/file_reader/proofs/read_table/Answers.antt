-- What is delivered is what was read: the promise of the reader's call. Assumes nothing.
use Rattle.std.proofs.Common.{refl}
use Rattle.theory_files.proofs.Beyond.{beyond}
use Rattle.theory_files.proofs.Unadjusted.{no_item}
use Rattle.file_reader.proofs.read_table.Goals as goal

pub returns : goal.returns
returns c =
    let a = c.args in
    let read = c.read_called-answer.ensures in
    let delivered = c.deliver.ensures a.marks.now a.file.now _ refl read.held in
    record {
      answer = read.answer;
      delivered = delivered;
      beyond = rw read.answer (beyond a.file.now _ a.marks.now _ delivered);
      unadjusted = no_item a.file.now _ a.marks.now _ delivered;
      cleared = read.cleared;
    }
