-- A refusal so far is handed on, and where the checks so far pass the slice is asked.
use Rattle.std.proofs.Common.{[], ◌∷◌, sym, ap}
use Rattle.std.proofs.lemmas.Result.{err_from_is_err_and}
use mathlib.Core.Path.{◌∙◌}
use Rattle.model.specs.Checks.{Report, bounded}
use Rattle.theory.proofs.Verdicts.{accepted_all, pass_on, refuse_on}
use Rattle.checks.specs.Numbered.{report_numbered}
use Rattle.checks.proofs.next_within.Goals as goal

pub returns-in_err-so_far : goal.returns-in_err-so_far
returns-in_err-so_far c ps said =
    let a = c.args in
    let p = err_from_is_err_and c.from_residual.result c.from_residual.ensures.1 in
    rw (p.1, p.2) (sym (refuse_on ps (bounded 3 a.offset a.limit a.s.now ∷ []) [] [] _ _ (sym said ∙ ap report_numbered c.in_err-so_far.was)))

pub returns : goal.returns
returns c ps said =
    let a = c.args in
    c.cells_within.ensures
    ∙ sym (pass_on ps (bounded 3 a.offset a.limit a.s.now ∷ []) [] (accepted_all ps [] (ap (λ (r : Report). r.accepted) (sym said ∙ ap report_numbered c.in_ok-so_far.was))))
