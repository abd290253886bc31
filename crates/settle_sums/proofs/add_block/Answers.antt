-- With a further product each sum is within what all of them add.
use Rattle.std.proofs.Common.{refl, arith}
use Rattle.model.specs.Numbers.{cell, sum}
use Rattle.model.specs.Rounds.{product}
use Rattle.theory.proofs.Sums.{sum_room}
use Rattle.cells.specs.Sheets.{sheet_of}
use Rattle.settle_sums.proofs.add_block.Goals as goal

pub add_products-requires-clause-fits : goal.add_products-requires-clause-fits
add_products-requires-clause-fits c =
    let a = c.args in
    let l = c.loop-j in
    λ row g h.
    let terms = product (sheet_of a.d.now) (cell a.increments.now) row in
    let more = sum_room terms l.j a.d.now.sectors (sum l.j terms) refl (omega arith) in
    rw c.narrowed.ensures (omega (arith, l.invariant.part row g h, more, c.requires.fits row g (omega arith)))
