-- Document 01, "The printed sheet": what `roadsheet` prints for the bytes of a table file.
use Rattle.std.specs.Prelude.{cond, List, [], ◌∷◌, ◌++◌, ℕ, zero, suc, ◌+◌, ◌*◌, eqb, length}
use Rattle.model.specs.Numbers.{Cells, cell}
use Rattle.model.specs.Table.{Table, sector_limit}
use Rattle.model.specs.Checks.{Report, rounds_of, verdict, single}
use Rattle.model.specs.Calls.{table_demand}
use Rattle.model.specs.Figures.{production_from, value_from, imports_from, figures_report}
use Rattle.model.specs.File.{Entry, Reading, reading, table_named}
use Rattle.model.specs.Bytes.{Bytes, bytes, padded}
use Rattle.model.specs.Text.{decimal, line}

abbrev pub headings : List Bytes
headings = bytes "sector" ∷ bytes "demand" ∷ bytes "production" ∷ bytes "value" ∷ bytes "imports" ∷ []

-- "A refusal prints only one line: `refused`, number, place"
unfoldable pub refusal_line : (number place : ℕ) → Bytes
refusal_line number place = line (bytes "refused" ∷ decimal number ∷ decimal place ∷ [])

-- what a call refuses, or the page that goes on from it
abbrev pub or_refusal : Report → Bytes → Bytes
or_refusal r page = cond r.accepted page (refusal_line r.number r.place)

-- the line of sector i, written from 1
abbrev pub sector_line : (demand production value imports : Cells) → ℕ → Bytes
sector_line demand production value imports i =
    line (decimal (i + 1) ∷ decimal (cell demand i) ∷ decimal (cell production i) ∷ decimal (cell value i) ∷ decimal (cell imports i) ∷ [])

-- the lines of the first n sectors
abbrev pub lines_to : ℕ → (ℕ → Bytes) → Bytes
lines_to zero w = []
lines_to (suc n) w = lines_to n w ++ w n

-- `rounds`, and how many
abbrev pub rounds_line : ℕ → Bytes
rounds_line rounds = line (bytes "rounds" ∷ decimal rounds ∷ [])

-- headings, a line a sector, and the rounds
unfoldable pub sheet : ℕ → (demand production value imports : Cells) → ℕ → Bytes
sheet n demand production value imports rounds =
    line headings ++ (lines_to n (sector_line demand production value imports) ++ rounds_line rounds)

-- ---- the page of a table: the first refusal of its calls, or the sheet of its figures
-- of a demand f for domestic goods, where the calls report r
abbrev pub page_from : Table → (f : Cells) → Report → Bytes
page_from t f r = or_refusal r (sheet t.sectors f (production_from t f) (value_from t f) (imports_from t f) (rounds_of r))

unfoldable pub table_page : Table → Bytes
unfolding refusal_line sheet figures_report
table_page t = page_from t (table_demand t) (figures_report t)

-- ---- the page of a file
-- the table that a reading names: F, E, M, V, X and G are its first columns
abbrev pub table_read : ℕ → List Entry → Table
table_read = table_named 6

-- the page of a reading: a file's own refusals too are one line
abbrev pub reading_page : Reading → Bytes
reading_page (Reading.refused number place) = refusal_line number place
reading_page (Reading.table n es) = table_page (table_read n es)

-- the page of a file, from its bytes to the printed bytes
unfoldable pub page : Bytes → Bytes
page s = reading_page (reading s)

-- ---- the call that writes it
-- bytes that hold every page, 2,851: headings, 40 lines of five amounts with 13 digits at most, and `rounds 1400`
abbrev pub page_limit : ℕ
page_limit = 39 + sector_limit * 70 + 12

-- what it leaves in a buffer of that length: the page, and 0 in every byte after it
unfoldable pub page_bytes : Bytes → Bytes
unfolding page
page_bytes s = padded page_limit (page s)

-- it asks 2 alone, the buffer's exact length; its count is how many bytes the page has
unfoldable pub page_report : (len : ℕ) (s : Bytes) → Report
unfolding page
page_report len s = verdict (single 2 (eqb page_limit len) ∷ []) (length (page s) ∷ [])
