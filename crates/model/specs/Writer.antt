-- Document 02, ticket 1: a table written as a file, the form of such a file, and what reading it returns. Ticket 3: "the archive rule covers G".
use Rattle.std.specs.Prelude.{true, cond, List, [], ◌∷◌, ◌++◌, map, ◌≡◌, ℕ, suc, ◌+◌, ◌*◌, ◌≤◌, ◌<◌, eqb, length, take, drop}
use Rattle.model.specs.Numbers.{Cells, tabulate}
use Rattle.model.specs.Table.{Table, table_of, column, sector_limit, few_sectors}
use Rattle.model.specs.Bytes.{Bytes, padded}
use Rattle.model.specs.Checks.{Report, Check, verdict, single, size, lengths, table_amounts}
use Rattle.model.specs.File.{Entry, Within, file_of, file_limit, column_kinds, kind_place, Reading, table_named}

-- ---- the file of a table
-- The cells of a word from a position on, "zeros left out"
abbrev pub word_entries : (word position : ℕ) → Cells → List Entry
word_entries word p [] = []
word_entries word p (a ∷ s) =
    let later = word_entries word (p + 1) s in
    cond (eqb a 0) later (record { word = word; position = p; amount = a } ∷ later)

-- those of a word, of the next, and so on
abbrev pub words_entries : (word : ℕ) → List Cells → List Entry
words_entries word [] = []
words_entries word (s ∷ ss) = word_entries word 0 s ++ words_entries (word + 1) ss

-- the rows of x: "row i of x starts at cell i × n"
abbrev pub rows : (n : ℕ) → Cells → List Cells
rows n x = tabulate n (λ i. take n (drop (i * n) x))

-- the columns in the order of their kinds: G is "written after the rises"
abbrev pub columns_by_kind : Table → List Cells
columns_by_kind t = tabulate (length column_kinds) (λ k. column t (kind_place k))

-- "cells in ascending kind, row and column, zeros left out": the rows of x, then the columns
unfoldable pub table_entries : Table → List Entry
table_entries t = words_entries 0 (rows t.sectors t.flows) ++ words_entries sector_limit (columns_by_kind t)

-- "kind 1, then cells …, then kind 8"
unfoldable pub written : Table → Bytes
unfolding table_entries file_of
written t = file_of t.sectors (table_entries t)

-- ---- the call that writes it
-- "lent exactly" 12,883 bytes "for the file", and "the bytes after it are 0"
unfoldable pub file_bytes : Table → Bytes
unfolding written
file_bytes t = padded file_limit (written t)

-- "It asks questions 1, 2 and 3, with the rises of kind 9 as a last column"
abbrev pub writer_checks : (t : Table) (file : ℕ) → List Check
writer_checks t file =
    size t.sectors ∷ lengths t.sectors (length t.flows ∷ []) (map length t.columns) ∷ single 2 (eqb file_limit file)
    ∷ table_amounts t

-- "The answer tells the file's length"
unfoldable pub writer_report : (t : Table) (file : ℕ) → Report
unfolding written
writer_report t file = verdict (writer_checks t file) (length (written t) ∷ [])

-- ---- the form of a written file
-- The place of a cell "in ascending kind, row and column": words are in the order of kinds and rows, positions in that of columns and sectors
abbrev pub order : Entry → ℕ
order e = e.word * sector_limit + e.position

-- cells of a table of n sectors, each of them later in this order than the one before it, the first not before place `low`, and none of them 0
abbrev pub Ascending : (n low : ℕ) → List Entry → Type 0
Ascending n low [] = Unit {0}
Ascending n low (e ∷ es) = Within n e × (low ≤ order e) × (0 < e.amount) × Ascending n (suc (order e)) es

-- A file of this form: kind 1 with n from 1 to 40, such cells, kind 8
pub record InForm (s : Bytes) : Type 0 where
  pub sectors : ℕ
  pub entries : List Entry
  pub sized : few_sectors sectors ≡ true
  pub ascending : Ascending sectors 0 entries
  pub bytes : s ≡ file_of sectors entries

-- The table that a file's reading returns, with the rises as a last column; a refused file returns no sectors
abbrev pub returned : Reading → Table
returned (Reading.refused q p) = table_of 0 [] []
returned (Reading.table n es) = table_named (length column_kinds) n es
