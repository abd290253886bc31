-- A row of small cells fits.
use Rattle.std.proofs.Common.{◌∙◌, arith}
use Rattle.inverse_ratios.proofs.Dispersion.{column_small, row_total, turned}
use Rattle.inverse_ratios.proofs.row_sum.Goals as goal

pub total-requires : goal.total-requires
total-requires c =
    let a = c.args in
    omega (arith, row_total a.sheet.now.sectors a.sheet.now.cells.now a.i a.sheet.now.square c.requires.within, column_small (turned c.requires.dispersed) a.i c.requires.within)

pub returns : goal.returns
returns c = c.total.ensures ∙ row_total c.args.sheet.now.sectors c.args.sheet.now.cells.now c.args.i c.args.sheet.now.square c.requires.within
