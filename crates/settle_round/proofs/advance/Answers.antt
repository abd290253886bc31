-- One sector more, and all of them at the end.
use Rattle.std.proofs.Common.{Bool, ℕ, ◌≡◌, ◌+◌, ◌-◌, sym, ap, ap₂, ◌∙◌, arith, below_more, le_refl}
use Rattle.std.specs.Prelude.{eqb, ◌&&◌}
use Rattle.model.specs.Numbers.{cell, tabulate}
use Rattle.settle_round.specs.Advance.{advanced}
use Rattle.theory.proofs.Lists.{agree_set, over_set, tabulated, cell-tabulate, same_more}
use Rattle.settle_round.proofs.Moves.{le_or_left, le_or_right, or_none, increment_none}
use Rattle.settle_round.proofs.advance.Goals as goal

pub loop-i-preserved : goal.loop-i-preserved
loop-i-preserved c =
    let a = c.args in
    let l = c.loop-i in
    let next = advanced a.start.now a.sums.now in
    let rise = next l.i - cell a.out.now l.i in
    let new : cell a.start.now l.i + c.taken_of.result ≡ next l.i = ap (λ (x : ℕ). cell a.start.now l.i + x) c.taken_of.ensures in
    let rose : cell a.start.now l.i + c.taken_of.result - cell l.out l.i ≡ rise = ap₂ ◌-◌ new (l.invariant.amounts.1 l.i (le_refl _)) in
    let none =
    or_none l.moved rise ∙ ap (λ (b : Bool). eqb l.moved 0 && b) (increment_none (next l.i) (cell a.out.now l.i) (c.requires.rising l.i (omega arith)).1)
    ∙ same_more l.i (tabulate a.n next) a.out.now l.invariant.unchanged (sym (cell-tabulate a.n next l.i (omega arith))) in
    record {
      amounts = over_set l.out l.i _ a.out.now _ (omega arith) new l.invariant.amounts;
      differences = agree_set l.increments l.i _ _ (omega arith) rose l.invariant.differences;
      unchanged = rw rose none;
      bound =
          rw rose
          (below_more _ _ (λ k h. omega (arith, l.invariant.bound k h, le_or_left l.moved rise)) (le_or_right l.moved rise));
    }

pub returns-clause-amounts : goal.returns-clause-amounts
returns-clause-amounts c = tabulated c.args.n c.loop-i.i _ c.loop-i.out (omega arith) (omega arith) c.loop-i.invariant.amounts.0

pub returns-clause-increments : goal.returns-clause-increments
returns-clause-increments c = tabulated c.args.n c.loop-i.i _ c.loop-i.increments (omega arith) (omega arith) c.loop-i.invariant.differences
