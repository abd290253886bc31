-- Document 02, ticket 3: "A file without kind 10 means G = 0 and keeps its results". Document 01's formulas, in which there is no G;
-- a, v and m in them are rounded as ticket 6 has it, for all tables alike.
use Rattle.std.specs.Prelude.{Bool, ◌&&◌, List, [], ◌∷◌, ◌++◌, map, ◌≡◌, ℕ, ◌+◌, ◌*◌, ◌-◌, eqb, leb, length, take, replicate}
use Rattle.model.specs.Numbers.{Cells, one, tabulate, cell, at}
use Rattle.model.specs.Table.{Table, table_of, final_demand, exports, imports, production, adjustment, portion, need, import_coefficient}
use Rattle.model.specs.Checks.{Report, Check, verdict, each, size, lengths, table_amounts, column_balances, imports_covered, column_sums}
use Rattle.model.specs.Calls.{domestic_coefficients}
use Rattle.model.specs.File.{kind_at, next_at, Reading, reading_with, table_named}
use Rattle.model.specs.Bytes.{Bytes}
use Rattle.model.specs.Figures.{report_from}
use Rattle.model.specs.Page.{refusal_line, sheet, page_from}

-- ---- a table without an adjustment item
-- G has n cells, and each of them is 0
abbrev pub NoAdjustment : Table → Type 0
NoAdjustment t = adjustment t ≡ replicate t.sectors 0

-- the table as document 01 has it, with F, E, M, V and X
abbrev pub without_adjustment : Table → Table
without_adjustment t = table_of t.sectors t.flows (take 5 t.columns)

module _ (t : Table) where
  -- 5. "the sum over j of x(i,j), plus F(i) + E(i), equals X(i) + M(i)"
  abbrev pub unadjusted_rows : Check
  unadjusted_rows =
      each 5 t.sectors
      (λ i. eqb (need t i + cell (exports t) i) (cell (production t) i + cell (imports t) i))

  -- "Sheets from a table ask 1 to 7"
  unfoldable pub unadjusted_report : (matrices lent : List ℕ) → Report
  unadjusted_report matrices lent =
      verdict
      (size t.sectors ∷ lengths t.sectors (length t.flows ∷ matrices) (map length t.columns ++ lent)
      ∷ table_amounts t
      ++ (column_balances t ∷ unadjusted_rows ∷ imports_covered t ∷ column_sums t.sectors (at t.sectors (domestic_coefficients t)) ∷ []))
      []

  -- "f(i) = (one − m(i)) × F(i) / one, rounded down, plus E(i) whole"
  unfoldable pub unadjusted_demands : Cells
  unadjusted_demands = tabulate t.sectors (λ i. portion (one - import_coefficient t i) (cell (final_demand t) i) + cell (exports t) i)

  -- "The printed sheet", with this f as demand
  unfoldable pub unadjusted_page : Bytes
  unfolding refusal_line sheet unadjusted_report unadjusted_demands
  unadjusted_page =
      let n = t.sectors in
      page_from t unadjusted_demands (report_from t unadjusted_demands (unadjusted_report (n * n ∷ n * n ∷ []) (n ∷ n ∷ n ∷ [])))

-- ---- a file without kind 10
-- 11. "Is the kind 1 to 9 and the body whole?"
abbrev pub unadjusted_whole : Bytes → ℕ → Bool
unadjusted_whole s at = leb 1 (kind_at s at) && leb (kind_at s at) 9 && leb (next_at s at) (length s)

-- the reader with this question 11
abbrev pub unadjusted_reading : Bytes → Reading
unadjusted_reading = reading_with unadjusted_whole

-- "A file without kind 10": this reader, which has no such kind, does not refuse it with 11 at a byte of 10
abbrev pub WithoutKind10 : Bytes → Type 0
WithoutKind10 s = (place : ℕ) → unadjusted_reading s ≡ Reading.refused 11 place → kind_at s place ≡ 10 → ⊥

-- its page
abbrev pub unadjusted_reading_page : Reading → Bytes
unadjusted_reading_page (Reading.refused number place) = refusal_line number place
unadjusted_reading_page (Reading.table n es) = unadjusted_page (table_named 5 n es)

unfoldable pub unadjusted_file_page : Bytes → Bytes
unadjusted_file_page s = unadjusted_reading_page (unadjusted_reading s)
