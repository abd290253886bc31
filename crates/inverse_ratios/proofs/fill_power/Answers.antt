-- The sums of a matrix with small cells are small, and the first is not 0.
use Rattle.std.proofs.Common.{◌≡◌, arith, rules}
use Rattle.model.specs.Numbers.{column_sum}
use Rattle.cells.specs.Sheets.{sheet_of}
use Rattle.inverse_ratios.proofs.Dispersion.{column_small, column_positive}
use Rattle.inverse_ratios.proofs.fill_power.Goals as goal

pub fill_dispersion-requires-clause-small : goal.fill_dispersion-requires-clause-small
fill_dispersion-requires-clause-small c = λ i r h p.
    let e : r ≡ column_sum c.args.sheet.now.sectors (sheet_of c.args.sheet.now) i = search rules in
    omega (arith, e, column_small c.requires.dispersed i h)

pub fill_dispersion-requires-clause-positive : goal.fill_dispersion-requires-clause-positive
fill_dispersion-requires-clause-positive c = λ r p.
    let e : r ≡ column_sum c.args.sheet.now.sectors (sheet_of c.args.sheet.now) 0 = search rules in
    omega (arith, e, column_positive c.requires.dispersed)
