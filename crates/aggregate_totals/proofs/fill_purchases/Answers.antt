-- One more cell, of a row of the flows, and all of them. Assumes nothing.
use mathlib.Core.List.{List}
use mathlib.Core.Path.{◌≡◌, ap, ◌∙◌}
use Prim.Native.Nat.{ℕ, ◌+◌, ◌*◌, ◌-◌, ◌<◌}
use native.Mathlib.Omega.{arith}
use lib.ListN.{length}
use Rattle.model.specs.Numbers.{at, cell}
use Rattle.model.specs.Aggregation.{group_total}
use Rattle.cells.proofs.RowLaws.{row, row_length, row_cell}
use Rattle.theory.proofs.Lists.{front_set, front_done}
use Rattle.theory_groups.proofs.Totals.{total_cong}
use Rattle.aggregate_totals.proofs.fill_purchases.Goals as goal

-- what a group has of row i
total_row : (n group i : ℕ) (x : List ℕ) → i < n → length x ≡ n * n → group_total (length (row n i x)) group (cell (row n i x)) ≡ group_total n group (at n x i)
total_row n group i x h e =
    ap (λ (m : ℕ). group_total m group (cell (row n i x))) (row_length n i x h e) ∙ total_cong n group (row_cell n i x)

pub loop-i-preserved : goal.loop-i-preserved
loop-i-preserved c =
    let a = c.args in
    let i = c.loop-i.i in
    let e : (i + 1) * a.n - i * a.n ≡ i * a.n + a.n - i * a.n = omega arith in
    front_set c.loop-i.invariant (omega arith) (rw e at c.group_total.ensures ∙ total_row a.n a.group i a.x.now (omega arith) (omega arith))

pub returns : goal.returns
returns c = front_done c.loop-i.invariant (omega arith)
