-- Each output holds its sheet where the call is accepted, and 0 where it is not. Assumes nothing.
use mathlib.Core.Path.{◌≡◌, refl, sym, ◌∙◌}
use Rattle.std.specs.Prelude.{Result, Ok, Err, is_ok}
use Rattle.model.specs.Checks.{report}
use Rattle.model.specs.declared.Refusal.{Refusal}
use Rattle.theory.proofs.Verdicts.{output_from}
use Rattle.theory_tables.proofs.Derived.{derived}
use Rattle.coefficients.proofs.coefficients.Goals as goal

-- an answer is accepted where it is `Ok`
accepted_ok : (a : Result Unit Refusal) → (report a).accepted ≡ is_ok a
accepted_ok (Ok u) = refl
accepted_ok (Err e) = refl

pub returns : goal.returns
returns c =
    let filled = c.fill_sheets-answer in
    let sheets = filled.ensures.sheets in
    let r = report filled.result in
    let told : r.accepted ≡ c.is_ok-accepted.result = accepted_ok filled.result ∙ sym c.is_ok-accepted.ensures.value in
    derived _ _ _ _ _ _ _ _ filled.ensures.answer
    (c.output.ensures r told ∙ output_from r filled.auto.a (λ ok. (sheets ok).0))
    (c.output-2.ensures r told ∙ output_from r filled.auto.v (λ ok. (sheets ok).1))
    (c.output-3.ensures r told ∙ output_from r filled.auto.m (λ ok. (sheets ok).2))
    (c.output-4.ensures r told ∙ output_from r filled.auto.d (λ ok. (sheets ok).3))
    (c.output-5.ensures r told ∙ output_from r filled.auto.f (λ ok. (sheets ok).4))
