-- The rows of the copy are alike to the columns of d, so their rounds are the same.
use Rattle.std.proofs.Common.{◌*◌, ◌∙◌}
use Rattle.std.proofs.Math.Nat.{mul-le-mul}
use Rattle.std.proofs.Math.Seq.{length-take-le}
use Rattle.model.specs.Numbers.{at, transposed}
use Rattle.theory_rounds.proofs.Alike.{columns_settleable, settlement_alike}
use Rattle.cells.specs.Sheets.{sheet_of}
use Rattle.production.proofs.settle_columns.Goals as goal

pub settle-requires-clause-settleable : goal.settle-requires-clause-settleable
settle-requires-clause-settleable c =
    let a = c.args in
    let few = c.requires.accepted.few in
    let copied = c.transpose.auto.sheet ∙ length-take-le (a.d.now.sectors * a.d.now.sectors) _ (mul-le-mul few few) in
    columns_settleable c.requires.accepted a.start.now c.requires.sizes.0 c.requires.starts c.transpose.new.sheet copied c.transpose.ensures

pub returns : goal.returns
returns c =
    let a = c.args in
    settlement_alike a.d.now.sectors (at a.d.now.sectors c.transpose.new.sheet) (transposed (sheet_of a.d.now)) c.transpose.ensures a.start.now a.budget c.settle.ensures
