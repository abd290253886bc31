-- What `exports_within` needs was asked by then. Assumes nothing.
use mathlib.Core.List.{[]}
use Rattle.model.specs.Checks.{demand_amounts}
use Rattle.theory.proofs.Verdicts.{answered_pass}
use Rattle.theory_tables.proofs.Demanded.{demand_amounts_lem}
use Rattle.domestic_demand.proofs.check_demand.Goals as goal

-- question 3 passed
pub exports_within-requires-clause-amounts : goal.exports_within-requires-clause-amounts
exports_within-requires-clause-amounts c =
    let a = c.args in
    let passed = answered_pass (demand_amounts a.m.now a.final_demand.now a.exports.now a.adjustment.now) c.check_amounts.ensures c.in_ok-check_amounts.was in
    let small = demand_amounts_lem a.n a.m.now a.final_demand.now a.exports.now a.adjustment.now [] passed in
    λ k. ((small.amounts k).1, (small.amounts k).2)
