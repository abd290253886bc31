-- What the checks say and the subtraction leaves keeps every promise.
use Rattle.std.proofs.Common.{List, [], ◌≡◌, ℕ, sym, ap, rules, arith}
use Rattle.std.proofs.lemmas.Result.{err_from_is_err_and}
use Rattle.model.specs.Numbers.{cell}
use Rattle.model.specs.Checks.{Report, accepts}
use Rattle.model.specs.Calls.{implied_report}
use Rattle.theory.proofs.Sums.{sum-cell}
use Rattle.theory_rounds.proofs.Answers.{Given, accepted_implied}
use Rattle.theory_rounds.proofs.Promises.{implied, implied_fits}
use Rattle.implied.proofs.implied_demand.Goals as goal

given : (n : ℕ) (d y lent : List ℕ) → accepts [] ≡ implied_report n d y lent → Given n d y lent
given n d y lent e = accepted_implied n d y lent (ap (λ (r : Report). r.accepted) (sym e))

pub returns-in_err-check_production : goal.returns-in_err-check_production
returns-in_err-check_production c =
    let a = c.args in
    let p = err_from_is_err_and c.from_residual.result c.from_residual.ensures.1 in
    rw (p.1, p.2)
    (implied a.n a.d.now a.production.now a.out.now (search rules) (search rules))

pub invariant_of-matrix : goal.invariant_of-matrix
invariant_of-matrix c =
    let a = c.args in
    record { square = (given a.n a.d.now a.production.now _ c.in_ok-check_production.ensures).matrix.cells }

pub subtract-requires-clause-sizes : goal.subtract-requires-clause-sizes
subtract-requires-clause-sizes c =
    let a = c.args in
    let g = given a.n a.d.now a.production.now _ c.in_ok-check_production.ensures in
    (g.cells, g.slices.0)

pub subtract-requires-clause-fits : goal.subtract-requires-clause-fits
subtract-requires-clause-fits c =
    let a = c.args in
    let g = given a.n a.d.now a.production.now _ c.in_ok-check_production.ensures in
    λ i h. (implied_fits g.matrix a.production.now g.total i h, omega (arith, g.total, sum-cell a.n (cell a.production.now) i h))

pub returns : goal.returns
returns c =
    let a = c.args in
    implied a.n a.d.now a.production.now a.out.now (search rules) c.subtract.ensures
