use Rattle.std.proofs.Common.{ℕ, ◌≡◌, ◌+◌, ◌*◌, ◌≤◌, ◌<◌, arith}
use Rattle.model.specs.Numbers.{sum, cell}
use Rattle.model.specs.Rounds.{product, weighted}
use Rattle.theory_rounds.specs.Bounds.{sum_limit}
use Rattle.theory.proofs.Sums.{sum_room}
use Rattle.cells.specs.Sheets.{sheet_of}
use Rattle.cells.proofs.matrix.Matrix.weighted_sum.Goals as goal

-- a product of the row fits beside those before it
room : (n : ℕ) (c : ℕ → ℕ → ℕ) (a : ℕ → ℕ) (i j s : ℕ) → s ≡ sum j (product c a i) → j < n → weighted n c a i ≤ sum_limit → s + c i j * a j ≤ sum_limit
room n c a i j s e h l = omega (arith, sum_room (product c a i) j n s e h)

pub overflow_mul-sum : goal.overflow_mul-sum
overflow_mul-sum c =
    rw c.at.ensures
    (omega (arith, room c.args.self.now.sectors (sheet_of c.args.self.now) (cell c.args.amounts.now) c.args.i c.loop-j.j c.loop-j.sum c.loop-j.invariant (omega arith) c.requires.fits))

pub overflow_add-sum : goal.overflow_add-sum
overflow_add-sum c =
    rw c.at.ensures
    (omega (arith, room c.args.self.now.sectors (sheet_of c.args.self.now) (cell c.args.amounts.now) c.args.i c.loop-j.j c.loop-j.sum c.loop-j.invariant (omega arith) c.requires.fits))
