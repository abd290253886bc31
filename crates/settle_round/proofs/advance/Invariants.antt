-- `out` has the new amounts below i and the old ones from i on, `increments` has those of the first i, and `moved` is 0 where these are the same, and at
-- least each increment of them.
use Rattle.std.proofs.Common.{◌≡◌, ℕ, ◌-◌, ◌<◌, ◌≤◌}
use Rattle.std.specs.Prelude.{eqb}
use Rattle.model.specs.Numbers.{cell, same, tabulate}
use Rattle.settle_round.specs.Advance.{advanced}
use Rattle.theory.proofs.Lists.{Agree, Over}
use Rattle.settle_round.proofs.advance.Given as goal

abbrev pub invariant-loop-i : goal.invariant-loop-i
invariant-loop-i l =
    let next = advanced l.start l.sums in
    record {
      amounts : Over l.out l.i next l.fn.out;
      differences : Agree l.increments l.i (λ k. next k - cell l.fn.out k);
      unchanged : eqb l.moved 0 ≡ same l.i (tabulate l.n next) l.fn.out;
      bound : (k : ℕ) → k < l.i → next k - cell l.fn.out k ≤ l.moved;
    }
