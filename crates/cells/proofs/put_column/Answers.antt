use Rattle.std.proofs.Common.{◌<◌, arith}
use mathlib.Core.Path.{◌∙◌}
use native.Mathlib.Nat.{ne_of_lt, lt_trans}
use borrow.Author.Count.{below_more}
use lib.Seq.{get_or-set_same, get_or-set_other}
use Rattle.theory.proofs.Matrices.{place_once}
use Rattle.theory.proofs.Sums.{cell_in}
use Rattle.cells.proofs.put_column.Goals as goal

pub loop-i-preserved : goal.loop-i-preserved
loop-i-preserved c =
    let l = c.loop-i in
    let n = c.args.n in
    let j = c.args.j in
    let inside : j < n = omega arith in
    record {
      stored =
          below_more _ l.i
          (λ r lt. get_or-set_other l.sheet _ _ _ 0 (λ e. ne_of_lt lt (place_once n l.i j r j inside inside e).0) ∙ l.invariant.stored r lt)
          (get_or-set_same l.sheet _ _ 0 (omega (arith, cell_in n l.i j (omega arith) inside)));
      kept = λ r k lt. get_or-set_other l.sheet _ _ _ 0 (λ e. ne_of_lt lt (place_once n l.i j r k inside (lt_trans lt inside) e).1) ∙ l.invariant.kept r k lt;
    }
