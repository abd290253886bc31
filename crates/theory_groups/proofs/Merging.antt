-- A table that passes questions 1 to 6 and 16 and is merged by groups that pass 18: the merged table passes them too where 19 does, and keeps its
-- totals. Assumes nothing.
use mathlib.Core.List.{List}
use mathlib.Core.Path.{◌≡◌, sym, ap₂, ◌∙◌}
use Prim.Native.Nat.{ℕ, ◌+◌, ◌≤◌, ◌<◌}
use lib.ListN.{length}
use Rattle.model.specs.Numbers.{sum, cell, transposed, column_sum}
use Rattle.model.specs.Table.{Table, column, absorption, final_demand, exports, imports, value_added, production, adjustment, adjusted_exports, flow, need}
use Rattle.model.specs.Aggregation.{group_total, merged_flow, merged_table}
use Rattle.model.specs.Promises.{SameTotals}
use Rattle.theory.proofs.Sums.{sum_cong}
use Rattle.theory.proofs.Lists.{made_cell, made_past}
use Rattle.theory.proofs.Matrices.{matrix-cell}
use Rattle.theory_tables.proofs.Tables.{Balanced}
use Rattle.theory_groups.proofs.Totals.{Once, total_cong, total_mono, total_add, total_none, total_kept, row_kept, column_kept, flows_kept}

module _ (t : Table) (groups : List ℕ) where
  abbrev g : ℕ
  g = length groups

  abbrev u : Table
  u = merged_table t groups

  -- what the sectors of group k have together
  abbrev grouped : (ℕ → ℕ) → ℕ → ℕ
  grouped f k = group_total t.sectors (cell groups k) f

  -- cells of the merged table
  merged_flow_lem : (k l : ℕ) → k < g → l < g → flow u k l ≡ merged_flow t groups k l
  merged_flow_lem = matrix-cell g (merged_flow t groups)

  -- past the last group a cell is 0
  pub merged_past : (c k : ℕ) → g ≤ k → cell (column u c) k ≡ 0
  merged_past = made_past g (λ s. grouped (cell s)) t.columns

  pub merged_cell : (c k : ℕ) → k < g → cell (column u c) k ≡ grouped (cell (column t c)) k
  merged_cell = made_cell g (λ s. grouped (cell s)) (λ k. total_none t.sectors (cell groups k)) t.columns

  module _ (once : Once t.sectors groups) where
    -- Theorem, for the reader: the totals of x and of every column are kept
    pub same_totals : SameTotals t u
    same_totals = record {
      flows = sum_cong g (λ l h. sum_cong g (λ k j. merged_flow_lem k l j h)) ∙ flows_kept t.sectors groups once (flow t);
      columns = λ c. sum_cong g (merged_cell c) ∙ total_kept t.sectors groups once (cell (column t c));
    }

    -- domestic need, and exports with the adjustment item
    merged_need : (k : ℕ) → k < g → need u k ≡ grouped (need t) k
    unfolding absorption
    merged_need k h =
        ap₂ ◌+◌ (sum_cong g (λ l j. merged_flow_lem k l h j) ∙ row_kept t.sectors groups once (flow t) k) (merged_cell 0 k h)
        ∙ sym (total_add t.sectors (cell groups k) (λ i. sum t.sectors (flow t i)) (cell (final_demand t)))

    merged_abroad : (k : ℕ) → k < g → adjusted_exports (exports u) (adjustment u) k ≡ grouped (adjusted_exports (exports t) (adjustment t)) k
    merged_abroad k h = ap₂ ◌+◌ (merged_cell 1 k h) (merged_cell 5 k h) ∙ sym (total_add t.sectors (cell groups k) (cell (exports t)) (cell (adjustment t)))

    -- Theorems, for the reader: a table that balances still does when it is merged, and imports are still covered by need
    module _ (b : Balanced t) where
      pub merged_columns : (l : ℕ) → l < g → sum g (transposed (flow u) l) + cell (value_added u) l ≡ cell (production u) l
      merged_columns l h =
          ap₂ ◌+◌ (sum_cong g (λ k j. merged_flow_lem k l j h) ∙ column_kept t.sectors groups once (flow t) l) (merged_cell 3 l h)
          ∙ sym (total_add t.sectors (cell groups l) (column_sum t.sectors (flow t)) (cell (value_added t)))
          ∙ total_cong t.sectors (cell groups l) b.columns
          ∙ sym (merged_cell 4 l h)

      pub merged_rows_lem : (k : ℕ) → k < g → need u k + adjusted_exports (exports u) (adjustment u) k ≡ cell (production u) k + cell (imports u) k
      merged_rows_lem k h =
          ap₂ ◌+◌ (merged_need k h) (merged_abroad k h)
          ∙ sym (total_add t.sectors (cell groups k) (need t) (adjusted_exports (exports t) (adjustment t)))
          ∙ total_cong t.sectors (cell groups k) b.rows
          ∙ total_add t.sectors (cell groups k) (cell (production t)) (cell (imports t))
          ∙ sym (ap₂ ◌+◌ (merged_cell 4 k h) (merged_cell 2 k h))

      pub merged_covered : (k : ℕ) → k < g → cell (imports u) k ≤ need u k
      merged_covered k h = rw (merged_cell 2 k h, merged_need k h) (total_mono t.sectors (cell groups k) b.covered)
