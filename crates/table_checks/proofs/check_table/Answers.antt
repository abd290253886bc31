-- What `check_contents` needs was asked by then. Assumes nothing.
use Rattle.std.proofs.Common.{[], ◌∷◌}
use Rattle.model.specs.Checks.{size, lengths}
use Rattle.theory.proofs.Verdicts.{answered_pass, sized}
use Rattle.table_checks.proofs.check_table.Goals as goal

-- questions 1 and 2 passed
pub check_contents-requires : goal.check_contents-requires
check_contents-requires c =
    let n = c.args.table.now.sectors in
    let matrices = c.args.matrices.now in
    let lent = c.args.lent.now in
    let p = answered_pass (size n ∷ lengths n matrices lent ∷ []) c.check_sizes.ensures c.in_ok-check_sizes.was in
    let z = sized n matrices lent p.0 p.1.0 in
    record { some = z.some; few = z.few; flows = c.requires.flows z.squares; columns = c.requires.columns z.slices }
