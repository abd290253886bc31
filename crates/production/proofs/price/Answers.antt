-- What the checks and the rounds give keeps every promise.
use Rattle.std.proofs.Common.{arith}
use Rattle.std.proofs.lemmas.Result.{err_from_is_err_and}
use Rattle.model.specs.Numbers.{at, transposed}
use Rattle.model.specs.Calls.{price_report}
use Rattle.theory_budgets.proofs.Calls.{priced}
use Rattle.production.proofs.Solving.{called_stop, passed, called_on}
use Rattle.production.proofs.price.Goals as goal

pub returns-in_err-check_start : goal.returns-in_err-check_start
unfolding price_report
returns-in_err-check_start c =
    let a = c.args in
    let s = called_stop c.check_start.ensures (transposed (at a.n a.d.now)) a.budget c.in_err-check_start.was in
    let p = err_from_is_err_and c.from_residual.result c.from_residual.ensures.1 in
    rw (p.1, p.2) (priced a.n a.d.now a.w.now a.budget a.out.now a.work.now s.answer s.outputs s.cleared)

pub settle_columns-requires-clause-accepted : goal.settle_columns-requires-clause-accepted
settle_columns-requires-clause-accepted c = (passed c.check_start.ensures c.in_ok-check_start.was).matrix

pub settle_columns-requires-clause-starts : goal.settle_columns-requires-clause-starts
settle_columns-requires-clause-starts c = λ i h. omega (arith, (passed c.check_start.ensures c.in_ok-check_start.was).small i h)

pub returns : goal.returns
unfolding price_report
returns c =
    let a = c.args in
    let s = called_on c.check_start.ensures c.in_ok-check_start.was (transposed (at a.n a.d.now)) a.budget c.settle_columns.ensures in
    priced a.n a.d.now a.w.now a.budget a.out.now a.work.now s.answer s.outputs s.cleared
