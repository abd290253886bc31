-- What the checks and the rounds give keeps every promise.
use Rattle.std.proofs.Common.{List, [], ◌∷◌, ◌++◌, ◌≡◌, ℕ, length, refl, rules}
use Rattle.std.specs.Prelude.{Result, Ok, Err, replicate}
use Rattle.std.proofs.lemmas.Result.{err_from_is_err_and}
use Rattle.model.specs.Numbers.{at}
use Rattle.model.specs.Rounds.{impact, impact_rounds}
use Rattle.model.specs.Checks.{Report, Check, report, report_rounds, verdict, demand_checks, both_settle}
use Rattle.model.specs.Calls.{matrix_checks, impact_report}
use Rattle.model.specs.CallContracts.{Compared}
use Rattle.model.specs.declared.Refusal.{Refusal}
use Rattle.theory.proofs.Verdicts.{answered_pass}
use Rattle.theory_rounds.proofs.Alike.{rows_settleable}
use Rattle.theory_rounds.proofs.Answers.{solved_stop, solved_on}
use Rattle.theory_impacts.proofs.Impacts.{BothStarted, both_started, compared}
use Rattle.impact_rounds.specs.Comparing.{BothSettled}
use Rattle.impact.proofs.impact.Goals as goal

-- questions 1, 2, 7, 8 and 17
abbrev asked : (n : ℕ) (d before after : List ℕ) (outs works : ℕ) → List Check
asked n d before after outs works = matrix_checks n d [] (length before ∷ length after ∷ outs ∷ works ∷ []) ++ demand_checks n before after

module _ {n : ℕ} {d before after : List ℕ} {a : Result Unit Refusal} (out₀ work₀ : List ℕ)
    (said : report a ≡ verdict (asked n d before after (length out₀) (length work₀)) []) where
  -- where one of them fails, and outputs and work cells are 0
  stopped : {e : Refusal} (budget : ℕ) {out work : List ℕ} → a ≡ Err e → out ≡ replicate (length out₀) 0 → work ≡ replicate (length work₀) 0
      → Compared n d before after budget out₀ work₀ (report_rounds (Err e)) out work
  unfolding impact_report
  stopped budget f o w =
      let s = solved_stop (asked n d before after (length out₀) (length work₀)) said (both_settle n (at n d) before after budget)
      {count = impact_rounds n (at n d) before after budget} {result = impact n (at n d) before after budget} f
      (record { answer = refl; outputs = o; cleared = w }) in
      compared n d before after budget out₀ work₀ s.answer s.outputs s.cleared

  module _ {u : Unit} (f : a ≡ Ok u) where
    -- where none does: what is known of the slices, and what the rounds then leave
    known : BothStarted n d before after (length out₀ ∷ length work₀ ∷ [])
    known = both_started n d before after (length out₀ ∷ length work₀ ∷ []) (answered_pass (asked n d before after (length out₀) (length work₀)) said f)

    settled : (budget : ℕ) {r : Report} {out work : List ℕ} → BothSettled n (at n d) before after budget r out work
        → Compared n d before after budget out₀ work₀ r out work
    unfolding impact_report
    settled budget σ =
        let l = known.first.slices in
        let s = solved_on (asked n d before after (length out₀) (length work₀)) said (both_settle n (at n d) before after budget) f l.0 l.1.0 σ in
        compared n d before after budget out₀ work₀ s.answer s.outputs s.cleared

pub returns-in_err-check_impact : goal.returns-in_err-check_impact
returns-in_err-check_impact c =
    let a = c.args in
    let p = err_from_is_err_and c.from_residual.result c.from_residual.ensures.1 in
    rw (p.1, p.2)
    (stopped a.out.now a.work.now (search rules) a.budget c.in_err-check_impact.was (search rules) (search rules))

pub compare-requires-clause-demands : goal.compare-requires-clause-demands
compare-requires-clause-demands c =
    let a = c.args in
    let k = known a.out.now a.work.now (search rules) c.in_ok-check_impact.was in
    let s = k.first in
    let t = k.second in
    (rows_settleable s.matrix a.before.now s.start s.small, rows_settleable t.matrix a.after.now t.start t.small, k.below)

pub returns : goal.returns
returns c = let a = c.args in settled a.out.now a.work.now (search rules) c.in_ok-check_impact.was a.budget c.compare.ensures
