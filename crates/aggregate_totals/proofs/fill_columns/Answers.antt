-- One column more, of what a group buys, and all of them. Assumes nothing.
use mathlib.Core.Path.{◌≡◌, ◌∙◌}
use native.Mathlib.Omega.{arith}
use borrow.Author.Count.{below_more}
use Rattle.std.proofs.Common.{[], length}
use Rattle.model.specs.Numbers.{at, cell}
use Rattle.model.specs.Table.{table_of}
use Rattle.model.specs.Aggregation.{merged_flow}
use Rattle.theory.proofs.Matrices.{matrix_made}
use Rattle.aggregate_totals.proofs.FlowLaws.{purchase_small, merged_purchases}
use Rattle.aggregate_totals.proofs.fill_columns.Goals as goal

pub fill_column-requires-clause-amounts : goal.fill_column-requires-clause-amounts
fill_column-requires-clause-amounts c =
    purchase_small c.args.n (cell c.args.groups.now c.loop-l.l) c.args.x.now c.fill_purchases.ensures (omega arith) c.requires.amounts

pub loop-l-preserved : goal.loop-l-preserved
loop-l-preserved c k j h =
    let a = c.args in
    let l = c.loop-l in
    let g = length a.groups.now in
    below_more (λ j. at g c.put_column.new.sheet k j ≡ merged_flow (table_of a.n a.x.now []) a.groups.now k j) l.l
    (λ j lt. c.put_column.ensures.kept k j lt ∙ l.invariant k j h lt)
    (c.put_column.ensures.stored k h ∙ merged_purchases a.n (cell a.groups.now l.l) a.x.now c.fill_purchases.ensures a.groups.now c.fill_column.ensures k h) j

pub returns : goal.returns
returns c =
    let a = c.args in
    matrix_made (length a.groups.now) (merged_flow (table_of a.n a.x.now []) a.groups.now) c.loop-l.merged (omega arith) (omega arith)
    (λ k j h l. c.loop-l.invariant k j h (omega arith))
