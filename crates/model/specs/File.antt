-- Document 01, "The table file", with kind 10 of document 02, ticket 3. A file is a list of bytes: a record for n, records for named cells in any
-- order, and an end.
use Rattle.std.specs.Prelude.{Bool, true, false, ◌&&◌, ◌||◌, List, [], ◌∷◌, ◌++◌, ℕ, zero, suc, ◌+◌, ◌*◌, ◌-◌, ◌/◌, ◌%◌, ◌<◌, eqb, leb, ltb, length, set, take, replicate}
use Rattle.std.proofs.Math.Bool.{cond}
use Rattle.model.specs.Numbers.{Cells, sum, all, tabulate, cell, bit, set_positions}
use Rattle.model.specs.Table.{Table, table_of, sector_limit, sheet_limit, few_sectors}
use Rattle.model.specs.Bytes.{Bytes}
use Rattle.model.specs.Checks.{Report, accepts, refuses}

-- A named cell, by the bit that marks it: "a row's named cells are marked as bits of one 64-bit word". Words 0 to 39 are for the rows of x, and a
-- position is a column; the words from 40 on are for the columns in the order of their kinds, and a position is a sector
pub record Entry : Type 0 where
  pub word : ℕ
  pub position : ℕ
  pub amount : ℕ

-- ---- the format: a record and its bytes
-- bytes of a record by its kind, the kind byte counted; 0 where there is no such kind
abbrev pub record_lengths : List ℕ
record_lengths = 0 ∷ 2 ∷ 7 ∷ 6 ∷ 6 ∷ 6 ∷ 6 ∷ 6 ∷ 1 ∷ 6 ∷ 6 ∷ []

-- "Kinds 3 to 7: F, E, M, V, X in that order. Kind 9", the rises, and kind 10, the adjustment item: the kinds of the columns
abbrev pub column_kinds : List ℕ
column_kinds = 3 ∷ 4 ∷ 5 ∷ 6 ∷ 7 ∷ 9 ∷ 10 ∷ []

-- the words of rows and columns: 47
abbrev pub word_limit : ℕ
word_limit = sector_limit + length column_kinds

-- the cells of all of them, 40 for each: 1,880
abbrev pub cell_limit : ℕ
cell_limit = word_limit * sector_limit

-- The columns of a table are F, E, M, V, X, G and the rises: the last two in the other order than their kinds. This is the place of column c among
-- the kinds, and the column of a place among them
abbrev pub kind_place : ℕ → ℕ
kind_place = cell (0 ∷ 1 ∷ 2 ∷ 3 ∷ 4 ∷ 6 ∷ 5 ∷ [])

-- the word of column c of a table
abbrev pub column_word : ℕ → ℕ
column_word c = sector_limit + kind_place c

-- the word of a column by its kind
abbrev pub column_words : List ℕ
column_words = 0 ∷ 0 ∷ 0 ∷ column_word 0 ∷ column_word 1 ∷ column_word 2 ∷ column_word 3 ∷ column_word 4 ∷ 0 ∷ column_word 6 ∷ column_word 5 ∷ []

-- e names a cell that a table of n sectors has
pub record Within (n : ℕ) (e : Entry) : Type 0 where
  pub known : e.word < word_limit
  pub row : e.word < sector_limit → e.word < n
  pub place : e.position < n

-- "amounts are 4 bytes, highest first"
abbrev pub amount_bytes : ℕ → Bytes
amount_bytes a = (a / 16777216) ∷ (a / 65536 % 256) ∷ (a / 256 % 256) ∷ (a % 256) ∷ []

-- a record: "Kind 2: row, column, amount of x", the other kinds sector and amount; "sector bytes run from 1"
unfoldable pub encode : Entry → Bytes
encode e =
    cond (ltb e.word sector_limit) (2 ∷ (e.word + 1) ∷ (e.position + 1) ∷ amount_bytes e.amount)
    (cell column_kinds (e.word - sector_limit) ∷ (e.position + 1) ∷ amount_bytes e.amount)

-- records one after the other
abbrev pub encode_all : List Entry → Bytes
encode_all [] = []
encode_all (e ∷ es) = encode e ++ encode_all es

-- kind 1, the named cells, kind 8
unfoldable pub file_of : ℕ → List Entry → Bytes
file_of n es = 1 ∷ n ∷ (encode_all es ++ (8 ∷ []))

-- The longest accepted file has 12,883 bytes: kind 1, a record of 7 bytes for each cell of x and of 6 for each cell of a column, and kind 8
abbrev pub file_limit : ℕ
file_limit = 2 + (sheet_limit * 7 + length column_kinds * sector_limit * 6) + 1

-- ---- what stands at an offset of a file s
-- the amount whose 4 bytes start at k
unfoldable pub amount_from : Bytes → ℕ → ℕ
amount_from s k = ((cell s k * 256 + cell s (k + 1)) * 256 + cell s (k + 2)) * 256 + cell s (k + 3)

module _ (s : Bytes) (at : ℕ) where
  -- "one byte of kind"
  abbrev pub kind_at : ℕ
  kind_at = cell s at

  -- the record names a cell of x
  abbrev pub is_flow : Bool
  is_flow = eqb kind_at 2

  -- the offset after the record
  abbrev pub next_at : ℕ
  next_at = at + cell record_lengths kind_at

  -- 11. the kind is 1 to 10, and the body is whole
  unfoldable pub whole_at : Bool
  whole_at = leb 1 (cell record_lengths kind_at) && leb next_at (length s)

  -- 13. every sector byte is from 1 to n
  unfoldable pub inside_at : ℕ → Bool
  inside_at n =
      leb 1 (cell s (at + 1)) && leb (cell s (at + 1)) n
      && cond is_flow (leb 1 (cell s (at + 2)) && leb (cell s (at + 2)) n) true

  -- the cell that the record names
  unfoldable pub entry_at : Entry
  unfolding amount_from
  entry_at =
      cond is_flow (record { word = cell s (at + 1) - 1; position = cell s (at + 2) - 1; amount = amount_from s (at + 3) })
      (record { word = cell column_words kind_at; position = cell s (at + 1) - 1; amount = amount_from s (at + 2) })

-- 14. the cell was named before
abbrev pub named_before : List Entry → Entry → Bool
named_before [] e = false
named_before (f ∷ es) e = eqb f.word e.word && eqb f.position e.position || named_before es e

-- ---- the marks of named cells: 47 words
-- "A row's named cells are marked as bits of one 64-bit word": the bit of a cell is set
unfoldable pub marked : (marks : Cells) (word position : ℕ) → Bool
marked marks word position = eqb (bit (cell marks word) position) 1

-- document 01, "The shape of each place": "The reader's named-cell total sums the ones of" the mark words
unfoldable pub mark_total : Cells → ℕ
mark_total marks = sum word_limit (λ w. set_positions (cell marks w))

-- ---- the reader's walk
-- what a file comes to: a refusal, or n and the named cells, the last one first
pub data Reading : Type 0 where
  refused : ℕ → ℕ → Reading
  table : ℕ → List Entry → Reading

-- a question: where its answer is no, its number at a place; else what follows
abbrev require : (yes? : Bool) (number place : ℕ) → Reading → Reading
require yes? number place onward = cond yes? onward (Reading.refused number place)

abbrev refuse_if : (no? : Bool) (number place : ℕ) → Reading → Reading
refuse_if no? number place onward = cond no? (Reading.refused number place) onward

-- The records after the first, from an offset on, with the cells named so far; `whole` is question 11. A record has at least one byte, so the
-- file's length is steps enough (`fuel`)
unfoldable pub walk_with : (whole : Bytes → ℕ → Bool) (fuel : ℕ) (s : Bytes) (n : ℕ) (es : List Entry) (at : ℕ) → Reading
unfolding inside_at entry_at
walk_with whole zero s n es at = Reading.refused 15 (length s)
walk_with whole (suc fuel) s n es at =
    let onward = walk_with whole fuel s n (entry_at s at ∷ es) (next_at s at) in
    refuse_if (leb (length s) at) 15 (length s)
    (require (whole s at) 11 at
    (refuse_if (eqb (kind_at s at) 1) 12 at
    (cond (eqb (kind_at s at) 8)
    (require (eqb (at + 1) (length s)) 15 (at + 1) (Reading.table n es))
    (require (inside_at s at n) 13 at
    (refuse_if (named_before es (entry_at s at)) 14 at onward)))))

-- The whole file: 12 asks that the first record is kind 1 with n from 1 to 40. The empty file gives 15 at 0
unfoldable pub reading_with : (whole : Bytes → ℕ → Bool) → Bytes → Reading
unfolding walk_with
reading_with whole s =
    let n = cell s 1 in
    let onward = walk_with whole (length s) s n [] 2 in
    refuse_if (eqb (length s) 0) 15 0
    (require (whole s 0) 11 0
    (require (eqb (kind_at s 0) 1 && few_sectors n) 12 0 onward))

-- with question 11 as above
abbrev pub walk : (fuel : ℕ) (s : Bytes) (n : ℕ) (es : List Entry) (at : ℕ) → Reading
walk = walk_with whole_at

abbrev pub reading : Bytes → Reading
reading = reading_with whole_at

-- ---- the cells that a reading names: "a cell not named is 0"
-- x: "row i of x starts at cell i × n"
abbrev pub flows_of : ℕ → List Entry → Cells
flows_of n [] = replicate sheet_limit 0
flows_of n (e ∷ es) = cond (ltb e.word sector_limit) (set (flows_of n es) (e.word * n + e.position) e.amount) (flows_of n es)

-- a column by its word
abbrev pub column_of : (word : ℕ) → List Entry → Cells
column_of word [] = replicate sector_limit 0
column_of word (e ∷ es) = cond (eqb e.word word) (set (column_of word es) e.position e.amount) (column_of word es)

module _ (k n : ℕ) (es : List Entry) where
  -- the first n cells of column c
  abbrev cells_read : ℕ → Cells
  cells_read c = take n (column_of (column_word c) es)

  -- the table that a reading names, with the first k of its columns: of x it has the first n × n cells
  abbrev pub table_named : Table
  table_named = table_of n (take (n * n) (flows_of n es)) (tabulate k cells_read)

-- ---- the reader's call
-- 2. "1,600 cells for x, 40 for each" of seven columns, and 47 work words: by the lengths of the lent slices
abbrev pub fits : (x : ℕ) (columns : List ℕ) (marks : ℕ) → Bool
fits x columns marks = eqb sheet_limit x && all (eqb sector_limit) columns && eqb word_limit marks

-- "The reader asks 2 first", then walks
unfoldable pub called : (x : ℕ) (columns : List ℕ) (marks : ℕ) → Bytes → Reading
unfolding reading_with
called x columns marks s = let later = reading s in cond (fits x columns marks) later (Reading.refused 2 0)

-- "the result is n and how many cells were named"
abbrev pub answer_of : Reading → Report
answer_of (Reading.refused q p) = refuses 2 q p
answer_of (Reading.table n es) = accepts (n ∷ length es ∷ [])

-- what the call leaves in the slice that is lent for x: after a refusal 0, in the slice's own length
abbrev pub flows_read : (len : ℕ) → Reading → Cells
flows_read len (Reading.refused q p) = replicate len 0
flows_read len (Reading.table n es) = flows_of n es

-- and in the slice that is lent for a column
abbrev pub column_read : (word len : ℕ) → Reading → Cells
column_read word len (Reading.refused q p) = replicate len 0
column_read word len (Reading.table n es) = column_of word es
