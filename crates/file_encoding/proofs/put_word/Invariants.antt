-- The cells from a position on are left.
use Rattle.theory.proofs.Stores.{Begun}
use Rattle.file_encoding.proofs.WordLaws.{word_from}
use Rattle.file_encoding.proofs.put_word.Given as goal

abbrev pub invariant-loop-position : goal.invariant-loop-position
invariant-loop-position l = Begun (word_from l.word l.cells 0) l.at l.fn.file l.file l.next (word_from l.word l.cells l.position)
