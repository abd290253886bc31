-- The output is 0 in every cell until the questions pass. Assumes nothing.
use mathlib.Core.List.{List, [], ◌∷◌}
use mathlib.Core.Path.{◌≡◌, refl, sym, ap, ◌∙◌}
use Prim.Native.Nat.{ℕ}
use lib.ListN.{length, replicate}
use Rattle.std.proofs.Common.{rules}
use Rattle.std.specs.Prelude.{Result, Ok}
use Rattle.std.proofs.lemmas.Result.{err_from_is_err_and}
use Rattle.model.specs.Checks.{accepts, report, verdict}
use Rattle.model.specs.Calls.{domestic_demand_checks, domestic_demand_report}
use Rattle.model.specs.declared.Refusal.{Refusal}
use Rattle.theory_tables.proofs.Demanded.{DemandGiven, accepted_demand, demanded}
use Rattle.domestic_demand.proofs.domestic_demand.Goals as goal

-- what is said of a call whose questions pass
module _ (n : ℕ) (m F E G lent : List ℕ) {answer : Result Unit Refusal} {u : Unit} (said : report answer ≡ verdict (domestic_demand_checks n m F E G lent) []) (e : answer ≡ Ok u) where
  accepted : accepts [] ≡ domestic_demand_report n m F E G lent
  unfolding domestic_demand_report
  accepted = sym (ap report e) ∙ said

  given : DemandGiven n m F E G lent
  given = accepted_demand n m F E G lent accepted refl

pub returns-in_err-check_demand : goal.returns-in_err-check_demand
unfolding domestic_demand_report
returns-in_err-check_demand c =
    let p = err_from_is_err_and c.from_residual.result c.from_residual.ensures.1 in
    let zero : c.fill.new.self ≡ replicate (length c.args.out.now) 0 = search rules in
    let said = rw c.fill.auto.self at c.check_demand.ensures in
    rw (p.1, p.2) (demanded (sym (ap report c.in_err-check_demand.was) ∙ said) zero)

pub fill_demand-requires : goal.fill_demand-requires
fill_demand-requires c =
    let a = c.args in
    let g = given a.n a.m.now a.final_demand.now a.exports.now a.adjustment.now (length c.fill.new.self ∷ []) c.check_demand.ensures c.in_ok-check_demand.was in
    let s = g.sizes in
    record {
      sizes = (s.shares, s.demand, s.exports, s.adjustment, s.slices.0);
      shares = λ k h. g.small.shares k;
      amounts = g.small.amounts;
    }

pub returns : goal.returns
returns c =
    let a = c.args in
    demanded (rw c.fill.auto.self at (accepted a.n a.m.now a.final_demand.now a.exports.now a.adjustment.now (length c.fill.new.self ∷ []) c.check_demand.ensures c.in_ok-check_demand.was)) c.fill_demand.ensures
