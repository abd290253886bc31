-- Document 01, "The printed sheet": the page of the worked table's 91 bytes, and pages of refusals, computed by the checker. Assumes nothing.
use mathlib.Core.Bool.{cond}
use mathlib.Core.Path.{◌≡◌, refl}
use mathlib.Core.List.{List, [], ◌∷◌, map}
use Prim.Native.Nat.{ℕ}
use lib.Dec.{eqb}
use Rattle.model.specs.Table.{absorption, input_coefficient, value_added_coefficient, import_coefficient, domestic_coefficient, domestic_demand}
use Rattle.model.specs.Rounds.{intermediate, round, rounds, changes, settling, settled, induced_value_added, induced_imports}
use Rattle.model.specs.Calls.{coefficients_report, input_coefficients, value_added_coefficients, import_coefficients, domestic_coefficients, production_report, induced_report}
use Rattle.model.specs.File.{Entry, encode, file_of, whole_at, inside_at, entry_at, walk_with, reading_with}
use Rattle.model.specs.Bytes.{bytes}
use Rattle.model.specs.Text.{digits}
use Rattle.model.specs.Checks.{accepts, refuses}
use Rattle.model.specs.Page.{refusal_line, table_page, page, page_report}
use Rattle.model.proofs.WorkedFile.{naming, entries}

-- a file, and the bytes of its page as the paper prints them
pub record Row : Type 0 where
  pub file : List ℕ
  pub printed : List ℕ

infix 68 ◌⊳◌
abbrev ◌⊳◌ : List ℕ → List ℕ → Row
s ⊳ p = record { file = s; printed = p }

-- the worked table's cells with other imports, and an adjustment item of 50 and 90
abbrev adjusted : List Entry → List Entry
adjusted [] = naming 46 0 50 ∷ naming 46 1 90 ∷ []
adjusted (e ∷ es) = cond (eqb e.word 42) (naming 42 e.position (cond (eqb e.position 0) 300 450)) e ∷ adjusted es

unfoldable pub pages : List Row
pages =
    file_of 2 entries
    ⊳ bytes "sector demand production value imports\n1 625 999 599 249\n2 1280 1999 999 359\nrounds 9\n"
    -- the empty file
    ∷ [] ⊳ bytes "refused 15 0\n"
    -- sector 2 makes 1
    ∷ file_of 2 (naming 44 1 1 ∷ []) ⊳ bytes "refused 4 1\n"
    -- sector 1 exports 1,000,000,001, in cell 6 of the table
    ∷ file_of 2 (naming 41 0 1_000_000_001 ∷ []) ⊳ bytes "refused 3 6\n"
    -- document 02, ticket 3: the worked table with an adjustment item; and exports of 1,000,000,000 with an item of 1
    ∷ file_of 2 (adjusted entries) ⊳ bytes "sector demand production value imports\n1 650 999 599 299\n2 1325 1999 999 449\nrounds 8\n"
    ∷ file_of 2 (naming 46 1 1 ∷ naming 41 1 1_000_000_000 ∷ []) ⊳ bytes "refused 16 1\n"
    -- document 02, ticket 6: a is 950,001 to the nearest millionth; and m is 9,158, by which d is 950,000
    ∷ file_of 1 (naming 0 0 88161 ∷ naming 40 0 4640 ∷ naming 43 0 4640 ∷ naming 44 0 92801 ∷ []) ⊳ bytes "refused 7 0\n"
    ∷ file_of 1 (naming 0 0 535 ∷ naming 40 0 11 ∷ naming 41 0 17 ∷ naming 42 0 5 ∷ naming 43 0 23 ∷ naming 44 0 558 ∷ [])
    ⊳ bytes "sector demand production value imports\n1 27 521 21 4\nrounds 76\n"
    -- a table of one sector and zeros
    ∷ file_of 1 [] ⊳ bytes "sector demand production value imports\n1 0 0 0 0\nrounds 1\n"
    ∷ []

-- Theorem, for the reader: every file above gives the page that the paper states
pub worked_pages : map (λ (r : Row). page r.file) pages ≡ map (λ (r : Row). r.printed) pages
unfolding pages
    absorption input_coefficient value_added_coefficient import_coefficient domestic_coefficient domestic_demand
    intermediate round rounds changes settling settled induced_value_added induced_imports
    coefficients_report input_coefficients value_added_coefficients import_coefficients domestic_coefficients production_report induced_report
    encode file_of whole_at inside_at entry_at walk_with reading_with digits refusal_line table_page page
worked_pages = refl

-- Theorem, for the reader: a buffer of 2,851 bytes, no more and no fewer, takes every page; the answer tells the bytes of the page
pub worked_buffer : (page_report 2851 [] ≡ accepts (13 ∷ [])) × (page_report 2850 [] ≡ refuses 1 2 0) × (page_report 2852 [] ≡ refuses 1 2 0)
unfolding reading_with digits refusal_line page page_report
worked_buffer = (refl, refl, refl)
