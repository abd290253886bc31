use Rattle.std.proofs.Common.{ℕ, ◌≡◌, ◌<◌}
use Rattle.model.specs.Numbers.{at, cell}
use Rattle.cells.proofs.put_column.Given as goal

-- the rows so far have the column, and the columns before j are kept
abbrev pub invariant-loop-i : goal.invariant-loop-i
invariant-loop-i l = record {
  stored : (r : ℕ) → r < l.i → at l.n l.sheet r l.j ≡ cell l.column r;
  kept : (r k : ℕ) → k < l.j → at l.n l.sheet r k ≡ at l.n l.initial.sheet r k;
}
