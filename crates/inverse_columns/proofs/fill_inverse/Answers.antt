-- Question 9 is asked after 1, 2 and 7.
use Rattle.std.proofs.Common.{rules, List, [], ◌∷◌, ℕ, length, ◌∙◌}
use Rattle.std.proofs.lemmas.Result.{err_from_is_err_and}
use Rattle.model.specs.Rounds.{inverse_rounds}
use Rattle.model.specs.Checks.{Check, columns_settle}
use Rattle.model.specs.Calls.{matrix_checks, inverse_report}
use Rattle.theory.proofs.Verdicts.{answered_pass, answered_on, answered_stop, accepted_matrix, sized}
use Rattle.inverse_columns.proofs.fill_inverse.Goals as goal

-- questions 1, 2 and 7
abbrev asked : (n : ℕ) (d : List ℕ) (sheet_len power_len sensitivity_len : ℕ) → List Check
asked n d sheet_len power_len sensitivity_len = matrix_checks n d (sheet_len ∷ []) (power_len ∷ sensitivity_len ∷ [])

pub returns-in_err-check_inverse-clause-answer : goal.returns-in_err-check_inverse-clause-answer
unfolding inverse_report
returns-in_err-check_inverse-clause-answer c =
    let a = c.args in
    let p = err_from_is_err_and c.from_residual.result c.from_residual.ensures.1 in
    rw (p.1, p.2)
    (answered_stop (asked a.n a.d.now (length a.sheet.now) a.power_len a.sensitivity_len) (search rules) (columns_settle a.n a.d.now a.budget ∷ [])
    (inverse_rounds a.n a.d.now a.budget ∷ []) c.in_err-check_inverse.was)

pub all_columns-requires : goal.all_columns-requires
all_columns-requires c =
    let a = c.args in
    let len = length c.fill.new.self in
    let p = answered_pass (asked a.n a.d.now len a.power_len a.sensitivity_len) c.check_inverse.ensures c.in_ok-check_inverse.was in
    let lent = a.power_len ∷ a.sensitivity_len ∷ [] in
    record { accepted = (accepted_matrix a.n a.d.now (len ∷ []) lent p).0; sizes = (sized a.n (length a.d.now ∷ len ∷ []) lent p.0 p.1.0).squares.1.0 }

pub returns-clause-answer : goal.returns-clause-answer
unfolding inverse_report
returns-clause-answer c =
    let a = c.args in
    c.all_columns.ensures.answer
    ∙ answered_on (asked a.n a.d.now (length a.sheet.now) a.power_len a.sensitivity_len) (search rules) (columns_settle a.n a.d.now a.budget ∷ [])
    (inverse_rounds a.n a.d.now a.budget ∷ []) c.in_ok-check_inverse.was
