-- A table in another order: its cells, its sheets, what its checks say, and the way back. Assumes nothing.
use mathlib.Core.Path.{◌≡◌, refl, sym, ap, ap₂, ◌∙◌, subst⁻¹}
use mathlib.Core.Bool.{true}
use mathlib.Core.List.{List, [], ◌∷◌, ◌++◌, map}
use Prim.Native.Nat.{ℕ, zero, suc, ◌+◌, ◌*◌, ◌-◌, ◌/◌, ◌%◌, ◌≤◌, ◌<◌, zero-le, suc-le-suc}
use native.Mathlib.Nat.{le_refl, zero-lt-suc}
use native.Mathlib.Decide.{dec_lt}
use native.Mathlib.Omega.{arith}
use borrow.Author.Tests.{le-leb, leb-true}
use lib.ListN.{length, get_or}
use Rattle.model.specs.Numbers.{one, tabulate, cell, at, matrix}
use Rattle.model.specs.Table.{Table, table_of, column, final_demand, exports, adjustment, adjusted_exports, share, portion, absorption, flow, need, input_coefficient, value_added_coefficient, import_coefficient, domestic_coefficient}
use Rattle.model.specs.Checks.{Report, amount_limit, column_limit, column_sums}
use Rattle.model.specs.Calls.{table_checks, input_coefficients, value_added_coefficients, import_coefficients, domestic_coefficients, table_demand, coefficients_report}
use Rattle.model.specs.Permutation.{fresh_entry, permuted_column, permuted_sheet, permuted_table}
use Rattle.model.specs.Promises.{Undoes, SheetsPermuted}
use Rattle.theory.specs.Slices.{Columns}
use Rattle.theory.proofs.Sums.{sum_cong}
use Rattle.theory.proofs.Lists.{All, length-tabulate, cell-tabulate, tabulated, tabulate_cong, made_columns, made_columns_lem, made_cell, made_past}
use Rattle.theory.proofs.Matrices.{matrix-cell, matrix_made}
use Rattle.theory.proofs.Verdicts.{accepted_all, all_pass_parts, all_pass_both, all_accepted}
use Rattle.theory_tables.specs.Tables.{TableSizes, TableAmounts}
use Rattle.theory_tables.proofs.Demands.{length_demand, demand_cell}
use Rattle.theory_tables.proofs.Tables.{Balanced, Accepted, accepted_table, table_passes}
use Rattle.theory_orders.proofs.Orders.{entry_below, sum_permuted}
use Rattle.theory_orders.proofs.PermutedRounds.{PermutedCoefficients, permuted_cell, column_permuted}

-- ---- slices rearranged
module _ (n : ℕ) (order : List ℕ) where
  length-sheet : (s : List ℕ) → length (permuted_sheet n order s) ≡ n * n
  length-sheet s = length-tabulate (n * n) (λ k. at n s (cell order (k / n)) (cell order (k % n)))

  sheet-cell : (s : List ℕ) → PermutedCoefficients n order (at n s) (at n (permuted_sheet n order s))
  sheet-cell s k l h g = matrix-cell n (λ k l. at n s (cell order k) (cell order l)) k l h g

-- cells gathered from slices are within their limit, also past the end
gathered_small : (limit g : ℕ) (place : ℕ → ℕ) (ss : List (List ℕ)) → ((c k : ℕ) → cell (get_or ss c []) k ≤ limit) → (c k : ℕ)
    → cell (get_or (made_columns g (λ s k. cell s (place k)) ss) c []) k ≤ limit
gathered_small limit g place ss small c k = split (dec_lt k g)
  where
    split : Dec (k < g) → cell (get_or (made_columns g (λ s k. cell s (place k)) ss) c []) k ≤ limit
    split (yes h) = omega (arith, made_cell g (λ s k. cell s (place k)) (λ _. refl) ss c k h, small c (place k))
    split (no h) = omega (arith, made_past g (λ s k. cell s (place k)) ss c k (omega arith))

-- ---- a table that is rearranged by a list that question 20 lets pass
module _ (t : Table) (order : List ℕ) (fresh : All (fresh_entry t.sectors order) t.sectors) where
  abbrev n : ℕ
  n = t.sectors

  abbrev u : Table
  u = permuted_table t order

  abbrev old : ℕ → ℕ
  old = cell order

  below : (k : ℕ) → k < n → old k < n
  below = entry_below n order fresh

  flow_permuted : PermutedCoefficients n order (flow t) (flow u)
  flow_permuted = sheet-cell n order t.flows

  column_cell : (c k : ℕ) → k < n → cell (column u c) k ≡ cell (column t c) (old k)
  column_cell = made_cell n (λ s k. cell s (old k)) (λ _. refl) t.columns

  need_permuted : (i : ℕ) → i < n → need u i ≡ need t (old i)
  unfolding absorption
  need_permuted i h =
      ap₂ ◌+◌ (sum_cong n {f = flow u i} {g = λ j. flow t (old i) (old j)} (λ j l. flow_permuted i j h l) ∙ sum_permuted n order fresh (flow t (old i)))
      (column_cell 0 i h)

  exports_permuted : (i : ℕ) → i < n → adjusted_exports (exports u) (adjustment u) i ≡ adjusted_exports (exports t) (adjustment t) (old i)
  exports_permuted i h = ap₂ ◌+◌ (column_cell 1 i h) (column_cell 5 i h)

  -- ---- its sheets, cell by cell
  input_permuted : PermutedCoefficients n order (input_coefficient t) (input_coefficient u)
  unfolding input_coefficient
  input_permuted i j h l = ap₂ share (flow_permuted i j h l) (column_cell 4 j l)

  value_permuted : (j : ℕ) → j < n → value_added_coefficient u j ≡ value_added_coefficient t (old j)
  unfolding value_added_coefficient
  value_permuted j h = ap₂ share (column_cell 3 j h) (column_cell 4 j h)

  import_permuted : (i : ℕ) → i < n → import_coefficient u i ≡ import_coefficient t (old i)
  unfolding import_coefficient
  import_permuted i h = ap₂ share (column_cell 2 i h) (need_permuted i h)

  domestic_permuted : PermutedCoefficients n order (domestic_coefficient t) (domestic_coefficient u)
  unfolding domestic_coefficient
  domestic_permuted i j h l = ap₂ (λ (m a : ℕ). portion (one - m) a) (import_permuted i h) (input_permuted i j h l)

  -- as slices
  column_is : (f g : ℕ → ℕ) → ((k : ℕ) → k < n → g k ≡ f (old k)) → tabulate n g ≡ permuted_column n order (tabulate n f)
  column_is f g e = tabulate_cong n (λ k h. e k h ∙ sym (cell-tabulate n f (old k) (below k h)))

  sheet_is : 1 ≤ n → (f g : ℕ → ℕ → ℕ) → PermutedCoefficients n order f g → matrix n g ≡ permuted_sheet n order (matrix n f)
  sheet_is some f g e =
      matrix_made n (λ k l. at n (matrix n f) (old k) (old l)) (matrix n g) some (length-tabulate (n * n) (λ k. g (k / n) (k % n)))
      (λ k l h m. matrix-cell n g k l h m ∙ e k l h m ∙ sym (matrix-cell n f (old k) (old l) (below k h) (below l m)))

  imports_are : import_coefficients u ≡ permuted_column n order (import_coefficients t)
  unfolding import_coefficients
  imports_are = column_is (import_coefficient t) (import_coefficient u) import_permuted

  demands_are : table_demand u ≡ permuted_column n order (table_demand t)
  demands_are =
      let m = import_coefficients t in
      tabulated n n (λ k. cell (table_demand t) (old k)) (table_demand u) (length_demand n (import_coefficients u) (final_demand u) (exports u) (adjustment u)) (le_refl n)
      (λ k h.
      demand_cell n (import_coefficients u) (final_demand u) (exports u) (adjustment u) k h
      ∙ ap₂ ◌+◌
      (ap₂ (λ (m a : ℕ). portion (one - m) a) (ap (λ (l : List ℕ). cell l k) imports_are ∙ permuted_cell n order m k h) (column_cell 0 k h))
      (exports_permuted k h)
      ∙ sym (demand_cell n m (final_demand t) (exports t) (adjustment t) (old k) (below k h)))

  -- Theorem, for the reader: the sheets are the old ones rearranged
  pub sheets_permuted : 1 ≤ n → SheetsPermuted order t u
  unfolding input_coefficients value_added_coefficients domestic_coefficients
  sheets_permuted some =
      record {
        inputs = sheet_is some (input_coefficient t) (input_coefficient u) input_permuted;
        values = column_is (value_added_coefficient t) (value_added_coefficient u) value_permuted;
        imported = imports_are;
        domestic = sheet_is some (domestic_coefficient t) (domestic_coefficient u) domestic_permuted;
        demands = demands_are;
      }

  -- d as it lies in slices
  pub coefficients_permuted : PermutedCoefficients n order (at n (domestic_coefficients t)) (at n (domestic_coefficients u))
  unfolding domestic_coefficients
  coefficients_permuted i j h l =
      matrix-cell n (domestic_coefficient u) i j h l ∙ domestic_permuted i j h l
      ∙ sym (matrix-cell n (domestic_coefficient t) (old i) (old j) (below i h) (below j l))

  -- ---- its checks
  pub sizes_permuted : TableSizes t → TableSizes u
  sizes_permuted z = record { some = z.some; few = z.few; flows = length-sheet n order t.flows; columns = made_columns_lem n (λ s k. cell s (old k)) t.columns }

  pub amounts_permuted : TableAmounts t → TableAmounts u
  amounts_permuted a =
      record {
        flows = gathered_small amount_limit (n * n) (λ k. old (k / n) * n + old (k % n)) (t.flows ∷ []) flows 0;
        columns = gathered_small amount_limit n old t.columns a.columns;
      }
    where
      flows : (c k : ℕ) → cell (get_or (t.flows ∷ []) c []) k ≤ amount_limit
      flows zero k = a.flows k
      flows (suc c) k = zero-le

  balance_permuted : Balanced t → Balanced u
  balance_permuted b =
      record {
        abroad = λ i h. subst⁻¹ (λ (a : ℕ). a ≤ amount_limit) (exports_permuted i h) (b.abroad (old i) (below i h));
        columns = λ j h.
            ap₂ ◌+◌ (column_permuted n order fresh (flow t) (flow u) flow_permuted j h) (column_cell 3 j h) ∙ b.columns (old j) (below j h) ∙ sym (column_cell 4 j h);
        rows = λ i h.
            ap₂ ◌+◌ (need_permuted i h) (exports_permuted i h) ∙ b.rows (old i) (below i h) ∙ sym (ap₂ ◌+◌ (column_cell 4 i h) (column_cell 2 i h));
        covered = λ i h. omega (arith, column_cell 2 i h, need_permuted i h, b.covered (old i) (below i h));
      }

  -- Theorem, for the reader: "Where sheets from the old table are accepted, so are those from the new"
  pub sheets_accepted : (matrices lent : List ℕ) → (coefficients_report t matrices lent).accepted ≡ true → (coefficients_report u matrices lent).accepted ≡ true
  unfolding coefficients_report
  sheets_accepted matrices lent a =
      let seventh = column_sums n (at n (domestic_coefficients t)) ∷ [] in
      let after = column_sums n (at n (domestic_coefficients u)) ∷ [] in
      let p = all_pass_parts (table_checks t matrices lent) seventh (accepted_all (table_checks t matrices lent ++ seventh) [] a) in
      let A = accepted_table t matrices lent p.0 in
      let B : Accepted u matrices lent = record { sizes = sizes_permuted A.sizes; small = amounts_permuted A.small; balance = balance_permuted A.balance; squares = A.squares; slices = A.slices } in
      ap (λ (r : Report). r.accepted)
      (all_accepted (table_checks u matrices lent ++ after) []
      (all_pass_both (table_checks u matrices lent) after (table_passes u matrices lent B) (
        λ j h. le-leb _ column_limit (subst⁻¹ (λ (a : ℕ). a ≤ column_limit)
            (column_permuted n order fresh (at n (domestic_coefficients t)) (at n (domestic_coefficients u)) coefficients_permuted j h)
            (leb-true _ column_limit (p.1.0 (old j) (below j h)))),
        tt,
      )))

-- ---- there and back
module _ (t : Table) (order inverse : List ℕ) (w : Undoes t.sectors order inverse) (z : TableSizes t) where
  abbrev m : ℕ
  m = t.sectors

  columns_back : (ss : List (List ℕ)) → Columns m ss → map (permuted_column m inverse) (map (permuted_column m order) ss) ≡ ss
  columns_back [] c = refl
  columns_back (s ∷ ss) c =
      ap₂ ◌∷◌
      (sym (tabulated m m (λ k. cell (permuted_column m order s) (cell inverse k)) s (c 0 (zero-lt-suc (length ss))) (le_refl m)
      (λ k h. sym (permuted_cell m order s (cell inverse k) (w.places k h) ∙ ap (cell s) (w.redo k h)))))
      (columns_back ss (λ k h. c (suc k) (suc-le-suc h)))

  -- Theorem, for the reader: "Rearranging by the list and then by its inverse returns the table"
  pub table_back : permuted_table (permuted_table t order) inverse ≡ t
  table_back =
      let x = permuted_sheet m order t.flows in
      ap₂ (table_of m)
      (sym (matrix_made m (λ k l. at m x (cell inverse k) (cell inverse l)) t.flows z.some z.flows
      (λ i j h l. sym (sheet-cell m order t.flows (cell inverse i) (cell inverse j) (w.places i h) (w.places j l) ∙ ap₂ (flow t) (w.redo i h) (w.redo j l)))))
      (columns_back t.columns z.columns)
