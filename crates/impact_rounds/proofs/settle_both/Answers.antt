-- Where both settle no sector falls, and the rise is left.
use Rattle.std.proofs.Common.{rules}
use Rattle.cells.specs.Sheets.{sheet_of}
use Rattle.impact_rounds.proofs.Comparing.{both_ordered, both_settled}
use Rattle.impact_rounds.proofs.settle_both.Goals as goal

pub subtract-requires-clause-below : goal.subtract-requires-clause-below
subtract-requires-clause-below c =
    let a = c.args in
    both_ordered a.d.now.sectors (sheet_of a.d.now) a.before.now a.after.now a.budget c.settle.ensures c.in_ok-earlier.was c.settle-2.ensures c.in_ok-later.was
    c.requires.demands.2

pub returns : goal.returns
returns c =
    let a = c.args in
    both_settled a.d.now.sectors (sheet_of a.d.now) a.before.now a.after.now a.budget c.settle.ensures c.in_ok-earlier.was c.settle-2.ensures c.in_ok-later.was (search rules)
    c.subtract.ensures
