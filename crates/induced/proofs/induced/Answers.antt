-- What the checks say of the slices is what the two results need.
use Rattle.std.proofs.Common.{List, [], ◌≡◌, ℕ, sym, ap}
use Rattle.model.specs.Checks.{Report, accepts}
use Rattle.model.specs.Calls.{induced_report}
use Rattle.theory_rounds.proofs.Answers.{InducedGiven, accepted_induced}
use Rattle.induced.proofs.induced.Goals as goal

given : (n : ℕ) (a m v F y lent : List ℕ) → accepts [] ≡ induced_report n a m v F y lent → InducedGiven n a m v F y lent
given n a m v F y lent e = accepted_induced n a m v F y lent (ap (λ (r : Report). r.accepted) (sym e))

pub fill_induced_value_added-requires : goal.fill_induced_value_added-requires
fill_induced_value_added-requires c =
    let a = c.args in
    let g = given a.n a.a.now a.m.now a.v.now a.final_demand.now a.production.now _ c.in_ok-check_induced.ensures in
    record { sizes = (g.sizes.values, g.sizes.production, g.sizes.slices.0); shares = g.values_small; total = g.total }

pub invariant_of-matrix : goal.invariant_of-matrix
invariant_of-matrix c =
    let a = c.args in
    record { square = (given a.n a.a.now a.m.now a.v.now a.final_demand.now a.production.now _ c.in_ok-check_induced.ensures).sizes.inputs }

pub fill_induced_imports-requires : goal.fill_induced_imports-requires
fill_induced_imports-requires c =
    let a = c.args in
    let g = given a.n a.a.now a.m.now a.v.now a.final_demand.now a.production.now _ c.in_ok-check_induced.ensures in
    let s = g.sizes in
    record {
      sizes = (s.imports, s.demand, s.production, s.slices.1.0);
      inputs = g.inputs_small;
      imports = g.imports_small;
      demand = g.demand_small;
      total = g.total;
    }
