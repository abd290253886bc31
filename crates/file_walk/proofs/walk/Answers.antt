-- The loop begins where the walk begins, goes on as it goes on, and ends as it ends. Assumes nothing.
use Rattle.std.proofs.Common.{Option, Ok, subst}
use Rattle.std.proofs.lemmas.Result.{err_from_is_err_and}
use Rattle.file_records.specs.declared.Step.{Step}
use Rattle.file_steps.specs.Steps.{Asked}
use Rattle.file_walk.proofs.Loops.{starts, stopped, finished, goes_on}
use Rattle.file_walk.proofs.walk.Goals as goal

pub loop-step-init : goal.loop-step-init
loop-step-init c = starts c.args.file.now c.args.n c.args.cells.now c.args.marks.now c.requires.opened c.requires.kept

pub returns-in_err-step : goal.returns-in_err-step
returns-in_err-step c =
    let exit = err_from_is_err_and c.from_residual.result c.from_residual.ensures.1 in
    let l = c.loop-step in
    rw (exit.1, exit.2) (stopped c.args.file.now c.args.n l.cells l.marks l.at l.invariant c.in_err-step.field-0.0 c.in_err-step.ensures)

pub loop-step-preserved : goal.loop-step-preserved
loop-step-preserved c =
    let l = c.loop-step in
    goes_on c.args.file.now c.args.n l.cells l.marks l.at l.invariant c.in-Some.step c.keep.new.cells c.keep.new.marks
    (subst (λ (t : Option Step). Asked c.args.file.now c.args.n l.at l.marks (Ok t)) c.in-Some.is c.in_ok-step.ensures) c.keep.ensures

pub returns : goal.returns
returns c =
    let l = c.loop-step in
    finished c.args.file.now c.args.n l.cells l.marks l.at l.invariant
    (subst (λ (t : Option Step). Asked c.args.file.now c.args.n l.at l.marks (Ok t)) c.in_default.is c.in_ok-step.ensures)
