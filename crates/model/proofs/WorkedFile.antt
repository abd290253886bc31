-- Document 01, "The table file": the worked table's file of 91 bytes, and files that are refused, computed by the checker. Assumes nothing.
use mathlib.Core.Bool.{Bool, true, ◌&&◌}
use mathlib.Core.Path.{◌≡◌, refl}
use mathlib.Core.List.{List, [], ◌∷◌, ◌++◌, map, reverse}
use Prim.Native.Nat.{ℕ, ◌<◌}
use native.Mathlib.Omega.{arith}
use lib.Dec.{ltb, lit<, lit≤}
use lib.ListN.{length, take, replicate}
use Rattle.model.specs.Numbers.{set_positions}
use Rattle.model.specs.Table.{Table, table_of, sector_limit}
use Rattle.model.specs.Checks.{accepts, refuses}
use Rattle.model.specs.File.{Entry, Within, word_limit, column_kinds, encode, file_of, whole_at, inside_at, entry_at, Reading, walk_with, reading, reading_with, flows_of, column_of, file_limit, mark_total, called}
use Rattle.model.specs.Writer.{table_entries, written, writer_report, Ascending, returned}

abbrev pub naming : ℕ → ℕ → ℕ → Entry
naming word position amount = record { word = word; position = position; amount = amount }

-- the worked table, in ascending kind and cell
abbrev pub entries : List Entry
entries =
    naming 0 0 100 ∷ naming 0 1 400 ∷ naming 1 0 300 ∷ naming 1 1 600
    ∷ naming 40 0 500 ∷ naming 40 1 900
    ∷ naming 41 0 250 ∷ naming 41 1 560
    ∷ naming 42 0 250 ∷ naming 42 1 360
    ∷ naming 43 0 600 ∷ naming 43 1 1000
    ∷ naming 44 0 1000 ∷ naming 44 1 2000
    ∷ []

-- Theorem, for the reader: the worked table as a file, its bytes, and the cells read of it
pub worked_file :
    (length (file_of 2 entries) ≡ 91)
    × (reading (file_of 2 entries) ≡ Reading.table 2 (reverse entries))
    × ◌≡◌ {A = List ℕ} (take 5 (flows_of 2 (reverse entries))) (100 ∷ 400 ∷ 300 ∷ 600 ∷ 0 ∷ [])
    × ◌≡◌ {A = List ℕ} (take 3 (column_of 44 (reverse entries))) (1000 ∷ 2000 ∷ 0 ∷ [])
unfolding encode file_of whole_at inside_at entry_at walk_with reading_with
worked_file = (refl, refl, refl, refl)

-- ---- the marks
-- those of the worked table: both cells of rows 0 and 1 and of five columns
abbrev worked_marks : List ℕ
worked_marks = 3 ∷ 3 ∷ (replicate 38 0 ++ (3 ∷ 3 ∷ 3 ∷ 3 ∷ 3 ∷ 0 ∷ 0 ∷ []))

-- Theorem, for the reader: the set positions of words with none, only the lowest, only the highest, and all; the worked table's marks name its 14 cells
pub worked_marks_lem :
    (set_positions 0 ≡ 0) × (set_positions 1 ≡ 1) × (set_positions 9223372036854775808 ≡ 1) × (set_positions 18446744073709551615 ≡ 64)
    × (mark_total worked_marks ≡ length entries)
unfolding set_positions mark_total
worked_marks_lem = (refl, refl, refl, refl, refl)

-- ---- the writer
-- the worked table with this adjustment item and these rises
abbrev worked_table : (adjustment rises : List ℕ) → Table
worked_table adjustment rises =
    table_of 2 (100 ∷ 400 ∷ 300 ∷ 600 ∷ [])
    ((500 ∷ 900 ∷ []) ∷ (250 ∷ 560 ∷ []) ∷ (250 ∷ 360 ∷ []) ∷ (600 ∷ 1000 ∷ []) ∷ (1000 ∷ 2000 ∷ []) ∷ adjustment ∷ rises ∷ [])

abbrev zeros : List ℕ
zeros = 0 ∷ 0 ∷ []

-- Theorem, for the reader: the worked table is written as that file, reading it returns the table, and the answer tells its 91 bytes
pub worked_written :
    (written (worked_table zeros zeros) ≡ file_of 2 entries)
    × (returned (reading (written (worked_table zeros zeros))) ≡ worked_table zeros zeros)
    × (writer_report (worked_table zeros zeros) file_limit ≡ accepts (91 ∷ []))
unfolding encode file_of whole_at inside_at entry_at walk_with reading_with table_entries written writer_report
worked_written = (refl, refl, refl)

-- a table of one sector in its bytes: only x, the adjustment item and the rise are not 0, and the item is written after the rise
pub small_written :
    ◌≡◌ {A = List ℕ} (written (table_of 1 (258 ∷ []) ((0 ∷ []) ∷ (0 ∷ []) ∷ (0 ∷ []) ∷ (0 ∷ []) ∷ (0 ∷ []) ∷ (5 ∷ []) ∷ (1000000000 ∷ []) ∷ [])))
    (1 ∷ 1 ∷ 2 ∷ 1 ∷ 1 ∷ 0 ∷ 0 ∷ 1 ∷ 2 ∷ 9 ∷ 1 ∷ 59 ∷ 154 ∷ 202 ∷ 0 ∷ 10 ∷ 1 ∷ 0 ∷ 0 ∷ 0 ∷ 5 ∷ 8 ∷ [])
unfolding encode file_of table_entries written
small_written = refl

-- 3 asks the adjustment item after X, and the rises after it; all bytes are lent; the writer does not ask 16
pub worked_writer :
    (writer_report (worked_table (1000000001 ∷ 0 ∷ []) (1000000001 ∷ 0 ∷ [])) file_limit ≡ refuses 1 3 14)
    × (writer_report (worked_table zeros (0 ∷ 1000000001 ∷ [])) file_limit ≡ refuses 1 3 17)
    × (writer_report (worked_table zeros zeros) 91 ≡ refuses 1 2 0)
    × (writer_report (worked_table zeros (0 ∷ [])) file_limit ≡ refuses 1 2 0)
    × (writer_report (worked_table (1000000000 ∷ 0 ∷ []) zeros) file_limit ≡ accepts (97 ∷ []))
unfolding encode file_of table_entries written writer_report
worked_writer = (refl, refl, refl, refl, refl)

-- exactly 12,883 bytes are lent; of several faults the first is told: 1 before 2, 2 before 3
pub worked_lent :
    (writer_report (worked_table zeros zeros) 12883 ≡ accepts (91 ∷ []))
    × (writer_report (table_of 41 [] []) 91 ≡ refuses 1 1 0)
    × (writer_report (worked_table zeros (1000000001 ∷ 0 ∷ [])) 91 ≡ refuses 1 2 0)
unfolding encode file_of table_entries written writer_report
worked_lent = (refl, refl, refl)

-- a named cell that a table of two sectors has
inside : (word position amount : ℕ) → word < word_limit → (word < sector_limit → word < 2) → position < 2 → Within 2 (naming word position amount)
inside word position amount k r p = record { known = k; row = r; place = p }

-- Theorem, for the reader: the form of a written file. Cells ascend row by row, x before the columns. Cells in another order, a cell that stands twice,
-- and a cell of 0 are not in the form
pub worked_form :
    Ascending 2 0 (naming 0 1 1 ∷ naming 1 0 1 ∷ naming 40 0 1 ∷ [])
    × (Ascending 2 0 (naming 1 0 1 ∷ naming 0 1 1 ∷ []) → ⊥)
    × (Ascending 2 0 (naming 40 0 1 ∷ naming 1 1 1 ∷ []) → ⊥)
    × (Ascending 2 0 (naming 0 1 1 ∷ naming 0 1 1 ∷ []) → ⊥)
    × (Ascending 2 0 (naming 0 1 0 ∷ []) → ⊥)
worked_form = (
  (
    inside 0 1 1 (lit< tt) (λ _. lit< tt) (lit< tt),
    lit≤ tt,
    lit< tt,
    (
      inside 1 0 1 (lit< tt) (λ _. lit< tt) (lit< tt),
      lit≤ tt,
      lit< tt,
      (inside 40 0 1 (lit< tt) (λ h. omega (arith, h)) (lit< tt), lit≤ tt, lit< tt, tt),
    ),
  ),
  λ h. omega (arith, h.3.1),
  λ h. omega (arith, h.3.1),
  λ h. omega (arith, h.3.1),
  λ h. omega (arith, h.2),
)

-- Theorem, for the reader: words are in the order of kinds, 2 for the rows of x and then those of the columns
abbrev rising : List ℕ → Bool
rising [] = true
rising (k ∷ []) = true
rising (k ∷ l ∷ ks) = ltb k l && rising (l ∷ ks)

pub kinds_ascend : rising (2 ∷ column_kinds) ≡ true
kinds_ascend = refl

-- ---- files that are refused, and files of few bytes
-- a file, and what the paper says of it
pub record Row : Type 0 where
  pub file : List ℕ
  pub stated : Reading

infix 68 ◌⊳◌
abbrev ◌⊳◌ : List ℕ → Reading → Row
s ⊳ r = record { file = s; stated = r }

unfoldable pub rows : List Row
rows =
    -- 15: the empty file; no end; a byte after the end
    [] ⊳ Reading.refused 15 0
    ∷ (1 ∷ 2 ∷ []) ⊳ Reading.refused 15 2
    ∷ (1 ∷ 2 ∷ 8 ∷ 0 ∷ []) ⊳ Reading.refused 15 3
    ∷ (1 ∷ 2 ∷ 8 ∷ []) ⊳ Reading.table 2 []
    -- 11: no such kind; a body that is cut, whatever it is
    ∷ (0 ∷ []) ⊳ Reading.refused 11 0
    ∷ (1 ∷ []) ⊳ Reading.refused 11 0
    ∷ (1 ∷ 2 ∷ 11 ∷ 1 ∷ 0 ∷ 0 ∷ 0 ∷ 5 ∷ 8 ∷ []) ⊳ Reading.refused 11 2
    ∷ (1 ∷ 2 ∷ 10 ∷ []) ⊳ Reading.refused 11 2
    ∷ (1 ∷ 2 ∷ 1 ∷ []) ⊳ Reading.refused 11 2
    ∷ (1 ∷ 2 ∷ 2 ∷ 9 ∷ 9 ∷ 0 ∷ 0 ∷ 0 ∷ []) ⊳ Reading.refused 11 2
    -- kind 10, an adjustment item, has the word after that of the rises
    ∷ (1 ∷ 2 ∷ 10 ∷ 2 ∷ 0 ∷ 0 ∷ 0 ∷ 5 ∷ 8 ∷ []) ⊳ Reading.table 2 (naming 46 1 5 ∷ [])
    -- 12: another kind first; n out of range; a second kind 1
    ∷ (8 ∷ []) ⊳ Reading.refused 12 0
    ∷ (1 ∷ 0 ∷ 8 ∷ []) ⊳ Reading.refused 12 0
    ∷ (1 ∷ 41 ∷ 8 ∷ []) ⊳ Reading.refused 12 0
    ∷ (1 ∷ 2 ∷ 1 ∷ 2 ∷ 8 ∷ []) ⊳ Reading.refused 12 2
    -- 13: a sector byte of 0, or above n, in either place
    ∷ (1 ∷ 2 ∷ 3 ∷ 0 ∷ 0 ∷ 0 ∷ 0 ∷ 5 ∷ 8 ∷ []) ⊳ Reading.refused 13 2
    ∷ (1 ∷ 2 ∷ 9 ∷ 3 ∷ 0 ∷ 0 ∷ 0 ∷ 5 ∷ 8 ∷ []) ⊳ Reading.refused 13 2
    ∷ (1 ∷ 2 ∷ 2 ∷ 1 ∷ 3 ∷ 0 ∷ 0 ∷ 0 ∷ 5 ∷ 8 ∷ []) ⊳ Reading.refused 13 2
    -- 14: a cell named twice, also with 0; naming a 0 is allowed
    ∷ (1 ∷ 2 ∷ 3 ∷ 1 ∷ 0 ∷ 0 ∷ 0 ∷ 0 ∷ 3 ∷ 1 ∷ 0 ∷ 0 ∷ 0 ∷ 0 ∷ 8 ∷ []) ⊳ Reading.refused 14 8
    ∷ (1 ∷ 2 ∷ 3 ∷ 1 ∷ 0 ∷ 0 ∷ 0 ∷ 0 ∷ 8 ∷ []) ⊳ Reading.table 2 (naming 40 0 0 ∷ [])
    ∷ []

-- Theorem, for the reader: every file above is read as the paper states it
pub refusals : map (λ (r : Row). reading r.file) rows ≡ map (λ (r : Row). r.stated) rows
unfolding rows whole_at inside_at entry_at walk_with reading_with
refusals = refl

-- ---- what the reader is lent
-- Theorem, for the reader: 2 comes first: 1,600 cells for x, 40 for each of seven columns, and 47 words of marks
pub worked_called :
    ◌≡◌ {A = List Reading}
    (called 1600 (replicate 7 40) 47 [] ∷ called 1601 (replicate 7 40) 47 [] ∷ called 1600 (replicate 6 40 ++ (41 ∷ [])) 47 [] ∷ called 1600 (replicate 7 40) 48 [] ∷ [])
    (Reading.refused 15 0 ∷ Reading.refused 2 0 ∷ Reading.refused 2 0 ∷ Reading.refused 2 0 ∷ [])
unfolding called reading_with
worked_called = refl
