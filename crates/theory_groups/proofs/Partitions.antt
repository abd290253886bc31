-- What question 18 says of groups, and the sizes of groups that passed it. Assumes nothing.
use mathlib.Core.List.{List}
use mathlib.Core.Path.{◌≡◌, sym, ap, ◌∙◌}
use Prim.Native.Nat.{ℕ, ◌%◌, ◌^◌, ◌≤◌, ◌<◌}
use native.Mathlib.Nat.{le_refl, div-eq_of_lt, lt_of_lt_of_le, mul-one}
use borrow.Author.Tests.{eqb-true, ltb-true}
use lib.Dec.{eqb, ltb}
use lib.ListN.{length}
use lib.Pow.{pow_mono}
use Rattle.model.specs.Numbers.{sum, all, tabulate, cell, bit, word_positions, set_positions}
use Rattle.model.specs.Table.{Table}
use Rattle.model.specs.Aggregation.{group_sizes, group_count, group_fits, partitioned}
use Rattle.theory.proofs.Sums.{sum_cong, sum_swap, sum_const, sum-rest}
use Rattle.theory.proofs.Lists.{length-tabulate, cell-tabulate, tabulate_cong, and_true, all-cell}
use Rattle.theory.proofs.Verdicts.{Passes}
use Rattle.theory_groups.proofs.Totals.{Once}

-- every sector is in exactly one group, and no group has a bit at n or above
pub record Partition (n : ℕ) (groups : List ℕ) : Type 0 where
  pub once : Once n groups
  pub below : (k : ℕ) → k < length groups → cell groups k < 2 ^ n

pub partition : (t : Table) (groups : List ℕ) → Passes (partitioned t groups) → Partition t.sectors groups
partition t groups p =
    let n = t.sectors in
    let counts = tabulate n (group_count groups) in
    let both = and_true (all (eqb 1) counts) (all (group_fits n) groups) (p 0 (le_refl 1)) in
    record {
      once = λ i h.
          sym (cell-tabulate n (group_count groups) i h)
          ∙ sym (eqb-true 1 (cell counts i) (all-cell (eqb 1) counts both.0 i (rw (length-tabulate n (group_count groups)) h)));
      below = λ k h. ltb-true (cell groups k) (2 ^ n) (and_true (ltb 0 (cell groups k)) (ltb (cell groups k) (2 ^ n)) (all-cell (group_fits n) groups both.1 k h)).1;
    }

-- a word below 2 ^ n has its set positions below n
set_below : (n w : ℕ) → n ≤ word_positions → w < 2 ^ n → set_positions w ≡ sum n (bit w)
unfolding set_positions
set_below n w h l = sum-rest n word_positions (bit w) h (λ i g. ap (λ (a : ℕ). a % 2) (div-eq_of_lt (lt_of_lt_of_le l (pow_mono g))))

module _ (n : ℕ) (groups : List ℕ) (p : Partition n groups) where
  -- so the sizes of groups are their ones
  pub sizes_are : n ≤ word_positions → tabulate (length groups) (λ k. set_positions (cell groups k)) ≡ group_sizes n groups
  unfolding group_sizes
  sizes_are h = tabulate_cong (length groups) (λ k l. set_below n (cell groups k) h (p.below k l))

  -- and all groups together take in every sector
  pub sizes_sum : sum (length groups) (cell (group_sizes n groups)) ≡ n
  unfolding group_sizes
  sizes_sum =
      sum_cong (length groups) (λ k h. cell-tabulate (length groups) (λ k. sum n (bit (cell groups k))) k h)
      ∙ sum_swap (length groups) n (λ k i. bit (cell groups k) i)
      ∙ sum_cong n {g = λ _. 1} p.once
      ∙ sum_const n 1
      ∙ mul-one n
