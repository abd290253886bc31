-- The demand is one in sector j, so the column is what settles from it.
use mathlib.Core.Path.{subst⁻¹}
use Rattle.std.proofs.Common.{List, ℕ, ap, ◌∙◌, arith}
use Rattle.model.specs.Numbers.{cell}
use Rattle.model.specs.Rounds.{settled, unit}
use Rattle.model.specs.Checks.{report_rounds, output}
use Rattle.theory.proofs.Lists.{length-tabulate}
use Rattle.theory_rounds.specs.Search.{Settleable, nine}
use Rattle.theory_rounds.proofs.Alike.{rows_settleable}
use Rattle.theory_rounds.proofs.Rounds.{unit_small}
use Rattle.cells.specs.Sheets.{sheet_of}
use Rattle.inverse_columns.proofs.Leontief.{unit_made}
use Rattle.inverse_columns.proofs.one_column.Goals as goal

pub settle-outcome-requires-clause-settleable : goal.settle-outcome-requires-clause-settleable
unfolding unit
settle-outcome-requires-clause-settleable c =
    let a = c.args in
    let n = a.d.now.sectors in
    let A = c.requires.accepted in
    subst⁻¹ (λ (u : List ℕ). Settleable n a.d.now.cells.now u) (unit_made n a.j A.few c.requires.sizes.1)
    (rows_settleable A (unit n a.j) (length-tabulate n _) (λ i h. omega (arith, unit_small n a.j i h)))

pub returns : goal.returns
returns c =
    let a = c.args in
    let n = a.d.now.sectors in
    let m = sheet_of a.d.now in
    let r = report_rounds c.settle-outcome.result in
    let e = unit_made n a.j c.requires.accepted.few c.requires.sizes.1 in
    record {
      answer = c.settle-outcome.ensures.answer ∙ ap (λ (u : List ℕ). nine n m u a.budget) e;
      column = λ i h. c.put_column.ensures.stored i h
          ∙ ap (λ (l : List ℕ). cell l i) (c.settle-outcome.ensures.outputs ∙ ap (λ (u : List ℕ). output r n (settled n m u a.budget)) e);
      kept = c.put_column.ensures.kept;
    }
