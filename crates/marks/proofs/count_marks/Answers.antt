-- The sum fits a word, and at the end it is the total of all words. Assumes nothing.
use Rattle.std.proofs.Common.{List, ℕ, arith}
use Rattle.model.specs.Numbers.{cell, set_positions}
use Rattle.model.specs.File.{mark_total, word_limit}
use Rattle.theory.proofs.Sums.{sum_room, sum_done}
use Rattle.marks.proofs.OneLaws.{total_most}
use Rattle.marks.proofs.count_marks.Goals as goal

-- the set positions of a word
abbrev positions : List ℕ → ℕ → ℕ
positions marks w = set_positions (cell marks w)

pub overflow_add-total : goal.overflow_add-total
unfolding mark_total
overflow_add-total c =
    let m = c.args.marks.now in
    omega (arith, total_most m, sum_room (positions m) c.loop-word.word-index word_limit c.loop-word.total c.loop-word.invariant (omega arith))

pub returns : goal.returns
unfolding mark_total
returns c = sum_done (positions c.args.marks.now) c.loop-word.word-index word_limit c.loop-word.total c.loop-word.invariant (omega arith) (omega arith)
