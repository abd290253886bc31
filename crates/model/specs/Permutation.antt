-- Document 02, ticket 9, "Sector order for storage". A table is rearranged "by a list of n sectors: entry k is the old sector that comes to place k".
use Rattle.std.specs.Prelude.{Bool, not, ◌&&◌, List, [], ◌∷◌, ◌++◌, map, ℕ, eqb, ltb, length}
use Rattle.model.specs.Numbers.{Cells, first, tabulate, cell, at, matrix}
use Rattle.model.specs.Table.{Table, table_of}
use Rattle.model.specs.Checks.{Report, Check, verdict, each, size, lengths, table_amounts}

module _ (n : ℕ) (order : Cells) where
  -- the place to which sector s comes: that of the first entry that is s; n where none is
  abbrev pub place_of : ℕ → ℕ
  place_of s = first n (λ k. not (eqb (cell order k) s))

  -- "the inverse list": the place of each old sector
  unfoldable pub inverse_list : Cells
  inverse_list = tabulate n place_of

  -- 20 refuses "if an entry of the list is not below n or repeats an earlier one". Entry k passes: it is below n, and the first that is its sector
  abbrev pub fresh_entry : ℕ → Bool
  fresh_entry k = ltb (cell order k) n && eqb (place_of (cell order k)) k

  -- 20. "place the first such entry"
  abbrev pub entries_fresh : Check
  entries_fresh = each 20 n fresh_entry

  -- a column rearranged, and a sheet, in its rows and its columns
  abbrev pub permuted_column : Cells → Cells
  permuted_column s = tabulate n (λ k. cell s (cell order k))

  abbrev pub permuted_sheet : Cells → Cells
  permuted_sheet s = matrix n (λ k l. at n s (cell order k) (cell order l))

module _ (t : Table) (order : Cells) where
  -- "Rearrange a table, G included and rises not": x and each of its columns
  abbrev pub permuted_table : Table
  permuted_table = table_of t.sectors (permuted_sheet t.sectors order t.flows) (map (permuted_column t.sectors order) t.columns)

  -- Rearranging asks 1, 2, 3, 20; its results: `permuted_table` and `inverse_list`. In the paper's words: "It asks 1, 2 and 3", and 20 is "asked after 3"
  abbrev pub permute_checks : (matrices lent : List ℕ) → List Check
  permute_checks matrices lent =
      size t.sectors ∷ lengths t.sectors (length t.flows ∷ matrices) (map length t.columns ++ (length order ∷ lent))
      ∷ table_amounts t ++ (entries_fresh t.sectors order ∷ [])

  -- and its answer
  unfoldable pub permute_report : (matrices lent : List ℕ) → Report
  permute_report matrices lent = verdict (permute_checks matrices lent) []
