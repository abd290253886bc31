-- What the checks and the rounds give keeps every promise.
use Rattle.std.proofs.lemmas.Result.{err_from_is_err_and}
use Rattle.model.specs.Numbers.{at}
use Rattle.model.specs.Calls.{production_report}
use Rattle.theory_rounds.proofs.Alike.{rows_settleable}
use Rattle.theory_budgets.proofs.Calls.{produced}
use Rattle.production.proofs.Solving.{called_stop, passed, called_on}
use Rattle.production.proofs.production.Goals as goal

pub returns-in_err-check_start : goal.returns-in_err-check_start
unfolding production_report
returns-in_err-check_start c =
    let a = c.args in
    let s = called_stop c.check_start.ensures (at a.n a.d.now) a.budget c.in_err-check_start.was in
    let p = err_from_is_err_and c.from_residual.result c.from_residual.ensures.1 in
    rw (p.1, p.2) (produced a.n a.d.now a.f.now a.budget a.out.now a.work.now s.answer s.outputs s.cleared)

pub settle-requires-clause-settleable : goal.settle-requires-clause-settleable
settle-requires-clause-settleable c =
    let s = passed c.check_start.ensures c.in_ok-check_start.was in
    rows_settleable s.matrix c.args.f.now s.start s.small

pub returns : goal.returns
unfolding production_report
returns c =
    let a = c.args in
    let s = called_on c.check_start.ensures c.in_ok-check_start.was (at a.n a.d.now) a.budget c.settle.ensures in
    produced a.n a.d.now a.f.now a.budget a.out.now a.work.now s.answer s.outputs s.cleared
