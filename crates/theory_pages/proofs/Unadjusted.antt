-- "A file without kind 10 means G = 0 and keeps its results": its page is that of document 01's own reader and formulas. Assumes nothing.
use mathlib.Core.List.{List}
use mathlib.Core.Path.{◌≡◌, refl, ap, ◌∙◌, subst}
use Prim.Native.Nat.{ℕ, ◌*◌, ◌≤◌}
use native.Mathlib.Omega.{arith}
use lib.ListN.{take, replicate}
use Rattle.model.specs.Table.{sector_limit}
use Rattle.model.specs.File.{Entry, Reading, flows_of, column_of, column_word, table_named}
use Rattle.model.specs.Bytes.{padded}
use Rattle.model.specs.Page.{table_read, table_page, reading_page, page, page_limit, page_bytes}
use Rattle.model.specs.Unadjusted.{unadjusted_page, unadjusted_reading, WithoutKind10, unadjusted_reading_page, unadjusted_file_page}
use Rattle.theory.proofs.Lists.{zeros_part}
use Rattle.theory_tables.proofs.Unadjusted.{adjusted, unadjusted_page_lem}
use Rattle.theory_files.specs.Files.{input_limit}
use Rattle.theory_files.proofs.Readings.{Answered, reading_answered}
use Rattle.theory_files.proofs.Unadjusted.{NoItem, Plain, item_zero, reading-same}

module _ (n : ℕ) (few : n ≤ sector_limit) (es : List Entry) (none : NoItem es) where
  -- the cells of column c
  abbrev read : ℕ → List ℕ
  read c = take n (column_of (column_word c) es)

  table_unadjusted : table_read n es ≡ adjusted n (take (n * n) (flows_of n es)) (read 0) (read 1) (read 2) (read 3) (read 4)
  table_unadjusted =
      let zero : read 5 ≡ replicate n 0 = ap (take n) (item_zero es none) ∙ zeros_part 0 n sector_limit (omega arith) in
      rw zero refl

  named_unadjusted : table_page (table_read n es) ≡ unadjusted_page (table_named 5 n es)
  named_unadjusted =
      ap table_page table_unadjusted ∙ unadjusted_page_lem n (take (n * n) (flows_of n es)) (read 0) (read 1) (read 2) (read 3) (read 4)

reading_unadjusted : (most : ℕ) (o : Reading) → Answered most o → Plain o → reading_page o ≡ unadjusted_reading_page o
reading_unadjusted most (Reading.refused number place) a plain = refl
reading_unadjusted most (Reading.table n es) a plain = named_unadjusted n a.1 es plain

-- Theorem, for the reader: of every file without kind 10, also of one that is refused
pub page_unadjusted : (s : List ℕ) → WithoutKind10 s → page s ≡ unadjusted_file_page s
unfolding page unadjusted_file_page
page_unadjusted s without =
    let same = reading-same s without in
    ap reading_page same.0 ∙ reading_unadjusted input_limit (unadjusted_reading s) (subst (Answered input_limit) same.0 (reading_answered s)) same.1

pub bytes_unadjusted : (s : List ℕ) → WithoutKind10 s → page_bytes s ≡ padded page_limit (unadjusted_file_page s)
unfolding page_bytes
bytes_unadjusted s without = ap (padded page_limit) (page_unadjusted s without)
