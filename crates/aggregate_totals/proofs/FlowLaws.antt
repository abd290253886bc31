-- What a group buys of each sector, and a column of the merged flows that is made of it. Assumes nothing.
use mathlib.Core.List.{List, []}
use mathlib.Core.Path.{◌≡◌, ap, ◌∙◌}
use Prim.Native.Nat.{ℕ, ◌+◌, ◌*◌, ◌≤◌, ◌<◌}
use native.Mathlib.Nat.{mul-le-mul_right}
use native.Mathlib.Omega.{arith}
use lib.ListN.{length}
use Rattle.model.specs.Numbers.{tabulate, cell, at}
use Rattle.model.specs.Table.{table_of, sector_limit}
use Rattle.model.specs.Checks.{amount_limit}
use Rattle.model.specs.Aggregation.{group_total, merged_column}
use Rattle.theory.proofs.Lists.{cell-tabulate, length-tabulate}
use Rattle.theory_groups.proofs.Totals.{total_cong, total_most}

module _ (n group : ℕ) (x : List ℕ) {purchases : List ℕ} (e : purchases ≡ tabulate n (λ i. group_total n group (at n x i))) where
  -- there is a cell for each sector
  pub purchase_each : length purchases ≡ n
  purchase_each = ap (λ (l : List ℕ). length l) e ∙ length-tabulate n (λ i. group_total n group (at n x i))

  -- what the group buys of sector i
  purchase : (i : ℕ) → i < n → cell purchases i ≡ group_total n group (at n x i)
  purchase i h = ap (λ (l : List ℕ). cell l i) e ∙ cell-tabulate n (λ i. group_total n group (at n x i)) i h

  -- is at most what 40 sectors can buy of one
  pub purchase_small : n ≤ sector_limit → ((k : ℕ) → cell x k ≤ amount_limit) → (i : ℕ) → i < length purchases → cell purchases i ≤ sector_limit * amount_limit
  purchase_small few small i h =
      omega (arith, purchase i (omega (arith, purchase_each)), total_most n group amount_limit {f = at n x i} (λ j _. small (i * n + j)), mul-le-mul_right amount_limit few)

  -- and the purchases of all groups of it are merged
  pub merged_purchases : (groups : List ℕ) {column : List ℕ} → column ≡ merged_column (table_of (length purchases) [] []) groups purchases
      → (k : ℕ) → k < length groups → cell column k ≡ group_total n (cell groups k) (λ i. group_total n group (at n x i))
  merged_purchases groups f k h =
      ap (λ (l : List ℕ). cell l k) f
      ∙ cell-tabulate (length groups) (λ k. group_total (length purchases) (cell groups k) (cell purchases)) k h
      ∙ ap (λ (m : ℕ). group_total m (cell groups k) (cell purchases)) purchase_each
      ∙ total_cong n (cell groups k) purchase
