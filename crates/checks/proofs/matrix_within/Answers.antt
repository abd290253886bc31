use Rattle.std.proofs.Common.{[], ◌+◌, ◌*◌, ◌≤◌, ◌<◌, length, sym, ap, arith}
use mathlib.Core.Path.{◌∙◌}
use native.Mathlib.Nat.{mul-le-mul_right, zero-add}
use borrow.Author.Tests.{lt-leb}
use Rattle.model.specs.Checks.{bounded, refuses}
use Rattle.theory.proofs.Sums.{cell_in}
use Rattle.theory.proofs.Verdicts.{passed, failed}
use Rattle.checks.proofs.matrix_within.Goals as goal

pub returns-then-limit-x : goal.returns-then-limit-x
returns-then-limit-x c =
    let a = c.args in
    let place = c.loop-i.i * a.n + c.loop-j.j in
    let inside : place < length a.x.now = omega (arith, cell_in a.n c.loop-i.i c.loop-j.j (omega arith) (omega arith)) in
    rw c.at.ensures (sym (failed (bounded 3 0 a.limit a.x.now) [] [] place inside c.loop-j.invariant (lt-leb _ _ c.if-limit-x.true) ∙ ap (refuses 0 3) (zero-add place)))

pub returns-after-loop-i : goal.returns-after-loop-i
returns-after-loop-i c =
    let a = c.args in
    let rows : a.n * a.n ≤ c.loop-i.i * a.n = mul-le-mul_right a.n (omega arith) in
    sym (passed (bounded 3 0 a.limit a.x.now) [] [] (c.loop-i.i * a.n) (omega arith) c.loop-i.invariant)
