-- Question 19 of a table with six columns, which merged F, M and X decide: the merged table's other amounts are within what these are. Assumes nothing.
use mathlib.Core.Bool.{Bool, true, ◌&&◌}
use mathlib.Core.List.{List, [], ◌∷◌, ◌++◌}
use mathlib.Core.Path.{◌≡◌, ap, subst}
use Prim.Native.Nat.{ℕ, zero, suc, ◌*◌, ◌/◌, ◌%◌, ◌≤◌, ◌<◌, zero-le}
use native.Mathlib.Decide.{dec_lt}
use native.Mathlib.Omega.{arith}
use borrow.Author.Tests.{leb-true, le-leb}
use lib.Dec.{leb}
use lib.ListN.{length, get_or-eq_default}
use Rattle.model.specs.Numbers.{cell, transposed}
use Rattle.model.specs.Table.{Table, table_by, column, exports, adjustment, flow}
use Rattle.model.specs.Checks.{Report, Check, amount_limit, verdict, table_amounts, exports_within}
use Rattle.model.specs.Aggregation.{group_total, merged_flow, merged_table}
use Rattle.theory.proofs.Sums.{sum-cell}
use Rattle.theory.proofs.Lists.{length-tabulate, both_ways, and_true, all-cell, all_passed}
use Rattle.theory.proofs.Matrices.{place_row, place_column, place_cell}
use Rattle.theory.proofs.Verdicts.{accepted_all, all_accepted, all_pass_parts, all_pass_both}
use Rattle.theory_tables.specs.Tables.{TableAmounts}
use Rattle.theory_tables.proofs.Tables.{Balanced, table_amounts_lem, amounts_pass, exports_follow}
use Rattle.theory_groups.specs.Groups.{totals_within, deciding_within}
use Rattle.theory_groups.proofs.Totals.{Once}
use Rattle.theory_groups.proofs.Merging.{merged_cell, merged_past, merged_columns, merged_rows_lem, merged_covered}

-- a column of totals that pass the test, cell by cell, and the other way round
module _ (t : Table) (groups : List ℕ) (c : ℕ) where
  abbrev s : List ℕ
  s = column t c

  abbrev test : ℕ → Bool
  test group = leb (group_total t.sectors group (cell s)) amount_limit

  totals_small : totals_within t.sectors groups s ≡ true → (k : ℕ) → k < length groups → cell (column (merged_table t groups) c) k ≤ amount_limit
  totals_small e k h = rw (merged_cell t groups c k h) (leb-true _ amount_limit (all-cell test groups e k h))

  totals_pass : ((k : ℕ) → cell (column (merged_table t groups) c) k ≤ amount_limit) → totals_within t.sectors groups s ≡ true
  totals_pass small = all_passed test groups (λ k h. le-leb _ amount_limit (subst (λ (a : ℕ). a ≤ amount_limit) (merged_cell t groups c k h) (small k)))

module _ (n : ℕ) (x f e m v p a groups : List ℕ) (once : Once n groups) (some : 1 ≤ length groups) where
  abbrev t : Table
  t = table_by n x f e m v p a

  abbrev u : Table
  u = merged_table t groups

  abbrev g : ℕ
  g = length groups

  -- the cells of a column of the merged table are within the limit
  abbrev Within : ℕ → Type 0
  Within c = (k : ℕ) → k < g → cell (column u c) k ≤ amount_limit

  module _ (b : Balanced t) where
    -- Theorem, for the reader: where merged F, M and X are within the limit, so are merged x, E, V and G
    pub small_amounts : Within 0 → Within 2 → Within 4 → TableAmounts u
    small_amounts is_f is_m is-p = record { flows = λ k. in_flows k (dec_lt k (g * g)); columns = λ c k. in_column c k (dec_lt k g) }
      where
        in_flows : (k : ℕ) → Dec (k < g * g) → cell u.flows k ≤ amount_limit
        in_flows k (yes h) =
            let i = k / g in
            let j = k % g in
            let l = place_column g k some in
            subst (λ (z : ℕ). z ≤ amount_limit) (place_cell g u.flows k)
            (omega (arith, sum-cell g (transposed (flow u) j) i (place_row g k some h), merged_columns t groups once b j l, is-p j l))
        in_flows k (no h) =
            let past : length u.flows ≤ k = omega (arith, length-tabulate (g * g) (λ k. merged_flow t groups (k / g) (k % g))) in
            rw (get_or-eq_default u.flows 0 past) zero-le

        here : (c k : ℕ) → k < g → cell (column u c) k ≤ amount_limit
        here zero k h = is_f k h
        here (suc zero) k h = omega (arith, merged_rows_lem t groups once b k h, merged_covered t groups once b k h, is-p k h)
        here (suc (suc zero)) k h = is_m k h
        here (suc (suc (suc zero))) k h = omega (arith, merged_columns t groups once b k h, is-p k h)
        here (suc (suc (suc (suc zero)))) k h = is-p k h
        here (suc (suc (suc (suc (suc zero))))) k h = omega (arith, merged_rows_lem t groups once b k h, merged_covered t groups once b k h, is-p k h)
        here (suc (suc (suc (suc (suc (suc c)))))) k h = zero-le

        in_column : (c k : ℕ) → Dec (k < g) → cell (column u c) k ≤ amount_limit
        in_column c k (yes h) = here c k h
        in_column c k (no h) = rw (merged_past t groups c k (omega arith)) zero-le

    -- the merged table balances
    pub merged_balanced : TableAmounts u → Balanced u
    merged_balanced small = record {
      abroad = λ k h. exports_follow u small k (merged_rows_lem t groups once b k h) (merged_covered t groups once b k h);
      columns = merged_columns t groups once b;
      rows = merged_rows_lem t groups once b;
      covered = merged_covered t groups once b;
    }

    -- so question 19 is that of these three columns
    abbrev sixteenth : List Check
    sixteenth = exports_within u.sectors (exports u) (adjustment u) ∷ []

    pub limits_same : deciding_within n groups f m p ≡ (verdict (table_amounts u ++ sixteenth) []).accepted
    limits_same = both_ways _ _ within decides
      where
        asked : List Check
        asked = table_amounts u ++ sixteenth

        within : deciding_within n groups f m p ≡ true → (verdict asked []).accepted ≡ true
        within e =
            let q = and_true (totals_within n groups f && totals_within n groups m) (totals_within n groups p) e in
            let r = and_true (totals_within n groups f) (totals_within n groups m) q.0 in
            let small = small_amounts (totals_small t groups 0 r.0) (totals_small t groups 2 r.1) (totals_small t groups 4 q.1) in
            ap (λ (r : Report). r.accepted)
            (all_accepted asked []
            (all_pass_both (table_amounts u) sixteenth (amounts_pass u small) (λ k h. le-leb _ _ ((merged_balanced small).abroad k h), tt)))

        decides : (verdict asked []).accepted ≡ true → deciding_within n groups f m p ≡ true
        decides e =
            let small = table_amounts_lem u (all_pass_parts (table_amounts u) sixteenth (accepted_all asked [] e)).0 in
            rw (totals_pass t groups 0 (small.columns 0), totals_pass t groups 2 (small.columns 2), totals_pass t groups 4 (small.columns 4))
