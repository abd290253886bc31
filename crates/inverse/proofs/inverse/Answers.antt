-- Where every column has settled the sheet is the inverse, which is ready for its ratios.
use Rattle.std.proofs.Common.{List, [], ◌∷◌, ℕ, ◌≡◌, length, sym, ap, ◌∙◌, rules}
use Rattle.std.specs.Prelude.{Err, replicate}
use Rattle.std.proofs.lemmas.Result.{err_from_is_err_and}
use Rattle.model.specs.Checks.{Report, report_rounds}
use Rattle.model.specs.Calls.{inverse_report}
use Rattle.model.specs.CallContracts.{Inverted}
use Rattle.model.specs.declared.Refusal.{Refusal}
use Rattle.theory_budgets.proofs.Calls.{inverse_nine}
use Rattle.inverse.proofs.Ready.{accepted_ready}
use Rattle.inverse.proofs.inverse.Goals as goal

-- a refusal, with 0 in every output
refused : (n : ℕ) (d : List ℕ) (budget : ℕ) (sheet₀ power₀ sensitivity₀ : List ℕ) (e : Refusal) {sheet power sensitivity : List ℕ}
    → report_rounds (Err e) ≡ inverse_report n d budget (length sheet₀ ∷ []) (length power₀ ∷ length sensitivity₀ ∷ [])
    → sheet ≡ replicate (length sheet₀) 0 → power ≡ replicate (length power₀) 0 → sensitivity ≡ replicate (length sensitivity₀) 0
    → Inverted n d budget sheet₀ power₀ sensitivity₀ (report_rounds (Err e)) sheet power sensitivity
refused n d budget sheet₀ power₀ sensitivity₀ e said s p q =
    record {
      answer = said;
      sheets = s;
      powers = p;
      sensitivities = q;
      enough = λ z. inverse_nine n d budget (length sheet₀ ∷ []) (length power₀ ∷ length sensitivity₀ ∷ []) (ap (λ (r : Report). r.number) (sym said) ∙ z);
    }

pub returns-in_err-rounds : goal.returns-in_err-rounds
returns-in_err-rounds c =
    let a = c.args in
    let p = err_from_is_err_and c.from_residual.result c.from_residual.ensures.1 in
    rw (p.1, p.2)
    (refused a.n a.d.now a.budget a.sheet.now a.power.now a.sensitivity.now c.in_err-rounds.field-0.0 (search rules) (search rules) (search rules) (search rules))

pub invariant_of-filled : goal.invariant_of-filled
invariant_of-filled c =
    let a = c.args in
    record { square = (accepted_ready a.n a.d.now a.budget _ _ _ c.in_ok-rounds.ensures.answer c.in_ok-rounds.ensures.sheets).cells }

pub fill_power-requires : goal.fill_power-requires
fill_power-requires c =
    let a = c.args in
    let r = accepted_ready a.n a.d.now a.budget _ _ _ c.in_ok-rounds.ensures.answer c.in_ok-rounds.ensures.sheets in
    record { sizes = r.power; dispersed = r.dispersed }

pub fill_sensitivity-requires : goal.fill_sensitivity-requires
fill_sensitivity-requires c =
    let a = c.args in
    let r = accepted_ready a.n a.d.now a.budget _ _ _ c.in_ok-rounds.ensures.answer c.in_ok-rounds.ensures.sheets in
    record { sizes = r.sensitivity; dispersed = r.dispersed }
