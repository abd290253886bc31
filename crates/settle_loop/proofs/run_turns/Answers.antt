-- The count that is returned is the least settling index; without one no round within the budget settles.
use Rattle.std.proofs.Common.{length, sym, ap, arith, ltb-true}
use Rattle.std.proofs.lemmas.Bool.{false≢true}
use Rattle.model.specs.Rounds.{rounds}
use Rattle.theory_rounds.specs.Bounds.{narrow_limit}
use Rattle.theory_rounds.proofs.Rounds.{rising_from}
use Rattle.theory_rounds.proofs.Settling.{none_yet, turn_amounts, turn_settles, turn_more}
use Rattle.theory_rounds.proofs.Answers.{nine_passed, nine_failed}
use Rattle.cells.specs.Sheets.{sheet_of}
use Rattle.settle_loop.proofs.run_turns.Goals as goal

pub loop-done-init : goal.loop-done-init
unfolding rounds
loop-done-init c =
    record {
      amounts = c.requires.begun.0;
      changed = none_yet _ _ _;
      carried = c.requires.carried;
      told = λ t. rw c.requires.begun.1 (λ k h. omega (arith, c.requires.settleable.small k (omega (arith, c.requires.settleable.sectors))));
    }

pub turn-requires-clause-rising : goal.turn-requires-clause-rising
turn-requires-clause-rising c =
    let a = c.args in
    rising_from a.d.now.sectors (sheet_of a.d.now) a.start.now c.loop-done.done c.loop-done.out c.loop-done.invariant.amounts

pub returns-in-None : goal.returns-in-None
returns-in-None c =
    let a = c.args in
    let l = c.loop-done in
    let i = l.invariant in
    let σ = turn_settles a.d.now.sectors (sheet_of a.d.now) a.start.now l.done l.out i.amounts i.changed c.turn.ensures.amounts (sym c.in-None.ensures.moved.0) in
    (nine_passed a.d.now.sectors (sheet_of a.d.now) a.start.now a.budget σ (omega arith), λ _. (σ, omega arith))

pub loop-done-preserved : goal.loop-done-preserved
loop-done-preserved c =
    let a = c.args in
    let l = c.loop-done in
    let i = l.invariant in
    let moved = c.in-Some.ensures.moved in
    record {
      amounts = turn_amounts a.d.now.sectors (sheet_of a.d.now) a.start.now l.done l.out i.amounts i.changed c.turn.ensures.amounts;
      changed = turn_more a.d.now.sectors (sheet_of a.d.now) a.start.now l.done l.out i.amounts i.changed (sym moved.0);
      carried = c.turn.ensures.carried;
      told = λ t k h.
          omega (arith, ltb-true c.in-Some.bound narrow_limit t, moved.1 k (omega (arith, ap length c.requires.begun.1, c.requires.settleable.sectors)));
    }

pub returns : goal.returns
returns c =
    let a = c.args in
    let none = nine_failed a.d.now.sectors (sheet_of a.d.now) a.start.now a.budget (λ k h. c.loop-done.invariant.changed k (omega arith)) in
    (rw c.at.ensures none, λ e. absurd (false≢true e))
