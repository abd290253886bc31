-- Document 02, ticket 3: "A file without kind 10 means G = 0 and keeps its results". Where G is 0, answer, f and page are those of document 01's own
-- formulas. Assumes nothing.
use mathlib.Core.Bool.{true}
use mathlib.Core.List.{List, [], ◌∷◌, ◌++◌, map}
use mathlib.Core.Path.{◌≡◌, sym, ap, ap₂, ◌∙◌, fun_ext}
use Prim.Native.Nat.{ℕ, ◌+◌, ◌*◌, ◌-◌, ◌<◌, zero-le}
use native.Mathlib.Nat.{add-zero}
use borrow.Author.Tests.{le-leb, eq-eqb}
use lib.Dec.{eqb, leb}
use lib.ListN.{length, replicate, length-replicate}
use Rattle.model.specs.Numbers.{one, cell, at}
use Rattle.model.specs.Table.{Table, table_of, table_by, adjusted_exports, need, portion, input_coefficient, value_added_coefficient, import_coefficient, domestic_coefficient, domestic_demand}
use Rattle.model.specs.Checks.{Report, Check, verdict, each, size, lengths, bounded, amount_limit, table_amounts, exports_within, column_balances, row_balances, imports_covered, column_sums}
use Rattle.model.specs.Calls.{coefficients_report, input_coefficients, value_added_coefficients, import_coefficients, domestic_coefficients, table_demand}
use Rattle.model.specs.Figures.{report_from, figures_report}
use Rattle.model.specs.Page.{page_from, table_page}
use Rattle.model.specs.Unadjusted.{unadjusted_rows, unadjusted_report, unadjusted_demands, unadjusted_page}
use Rattle.theory.proofs.Lists.{tabulate_cong, cell_zeros}
use Rattle.theory.proofs.Verdicts.{AllPass, unasked}
use Rattle.theory_tables.proofs.Tables.{bounded-cell, import_cell}

module _ (n : ℕ) (x final_demand exports imports value_added production : List ℕ) where
  abbrev pub zeros : List ℕ
  zeros = replicate n 0

  -- the table with an adjustment item of 0 in every sector, and as document 01 has it
  abbrev pub adjusted : Table
  adjusted = table_by n x final_demand exports imports value_added production zeros

  abbrev pub plain : Table
  plain = table_of n x (final_demand ∷ exports ∷ imports ∷ value_added ∷ production ∷ [])

  exports_alone : (i : ℕ) → adjusted_exports exports zeros i ≡ cell exports i
  exports_alone i = ap (λ (g : ℕ). cell exports i + g) (cell_zeros n i) ∙ add-zero (cell exports i)

  -- f, by document 01
  pub unadjusted_demands_lem : table_demand adjusted ≡ unadjusted_demands plain
  unfolding domestic_demand unadjusted_demands import_coefficient
  unadjusted_demands_lem = tabulate_cong n (λ i h. ap₂ (λ (m e : ℕ). portion (one - m) (cell final_demand i) + e) (import_cell adjusted i h) (exports_alone i))

  -- the questions: that of G among 3 and 16 pass where those before them do, and 5 is that of document 01
  module _ (matrices lent : List ℕ) where
    abbrev before : List Check
    before = size n ∷ lengths n (length x ∷ matrices) (map length (final_demand ∷ exports ∷ imports ∷ value_added ∷ production ∷ []) ++ lent) ∷ table_amounts plain

    abbrev after : Check → List Check
    after rows = column_balances plain ∷ rows ∷ imports_covered plain ∷ column_sums n (at n (domestic_coefficients plain)) ∷ []

    abbrev amounts : Check
    amounts = bounded 3 (0 + length x + length final_demand + length exports + length imports + length value_added + length production) amount_limit zeros

    zeros_pass : (i : ℕ) → i < length zeros → leb (cell zeros i) amount_limit ≡ true
    zeros_pass i _ = ap (λ (g : ℕ). leb g amount_limit) (cell_zeros n i) ∙ le-leb 0 amount_limit zero-le

    exports_pass : AllPass before → (i : ℕ) → i < n → leb (adjusted_exports exports zeros i) amount_limit ≡ true
    exports_pass p i _ =
        ap (λ (e : ℕ). leb e amount_limit) (exports_alone i)
        ∙ le-leb (cell exports i) amount_limit (bounded-cell 0 amount_limit exports p.1.1.1.1.0 i)

    rows_same : row_balances adjusted ≡ unadjusted_rows plain
    rows_same = ap (each 5 n) (fun_ext (λ i. ap (λ (e : ℕ). eqb (need plain i + e) (cell production i + cell imports i)) (exports_alone i)))

    pub unadjusted_report_lem : coefficients_report adjusted matrices lent ≡ unadjusted_report plain matrices lent
    unfolding coefficients_report unadjusted_report domestic_coefficients domestic_coefficient input_coefficient import_coefficient
    unadjusted_report_lem =
        rw (eq-eqb n (length zeros) (sym (length-replicate n 0)))
        (unasked before (amounts ∷ exports_within n exports zeros ∷ []) (after (row_balances adjusted)) [] (λ p. (zeros_pass, (exports_pass p, tt)))
        ∙ ap (λ (q : Check). verdict (before ++ after q) []) rows_same)

  -- Theorem, for the reader: the page, by document 01
  pub unadjusted_page_lem : table_page adjusted ≡ unadjusted_page plain
  unfolding table_page figures_report unadjusted_page input_coefficients input_coefficient value_added_coefficients value_added_coefficient import_coefficients import_coefficient domestic_coefficients domestic_coefficient
  unadjusted_page_lem =
      ap₂ (λ (f : List ℕ) (r : Report). page_from plain f (report_from plain f r)) unadjusted_demands_lem
      (unadjusted_report_lem (n * n ∷ n * n ∷ []) (n ∷ n ∷ n ∷ []))
