use Rattle.std.proofs.Common.{[], ◌∷◌}
use Rattle.model.specs.Checks.{size, lengths}
use Rattle.theory.proofs.Verdicts.{answered_pass, sized}
use Rattle.checks.proofs.check_matrix.Goals as goal

-- questions 1 and 2 passed
pub columns_within-requires : goal.columns_within-requires
columns_within-requires c =
    let a = c.args in
    let p = answered_pass (size a.n ∷ lengths a.n a.matrices.now a.lent.now ∷ []) c.check_sizes.ensures c.in_ok-check_sizes.was in
    c.requires (sized a.n a.matrices.now a.lent.now p.0 p.1.0).squares
