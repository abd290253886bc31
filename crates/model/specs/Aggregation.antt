-- Document 02, ticket 7, "Merging sectors". A group is one 64-bit word, which has bit i where sector i is in the group.
use Rattle.std.specs.Prelude.{Bool, ◌&&◌, List, [], ◌∷◌, ◌++◌, map, ℕ, ◌*◌, ◌^◌, eqb, leb, ltb, length}
use Rattle.model.specs.Numbers.{Cells, Sheet, sum, all, tabulate, cell, matrix, bit}
use Rattle.model.specs.Table.{Table, table_of, exports, adjustment, flow}
use Rattle.model.specs.Checks.{Report, Check, verdict, single, size, lengths, table_amounts, exports_within, balance_checks}

-- "added": what the sectors of a group have together, f added up over the sectors below n that are in it
unfoldable pub group_total : (n group : ℕ) (f : ℕ → ℕ) → ℕ
group_total n group f = sum n (λ i. bit group i * f i)

-- "how many sectors each group took in"
unfoldable pub group_sizes : (n : ℕ) (groups : Cells) → Cells
group_sizes n groups = tabulate (length groups) (λ k. sum n (bit (cell groups k)))

-- in how many groups sector i is
abbrev pub group_count : (groups : Cells) → ℕ → ℕ
group_count groups i = sum (length groups) (λ k. bit (cell groups k) i)

-- a group is not empty, and has no bit at n or above
abbrev pub group_fits : (n group : ℕ) → Bool
group_fits n group = ltb 0 group && ltb group (2 ^ n)

-- every sector is in one group, no more and no less, and every group fits
abbrev pub is_partition : (n : ℕ) (groups : Cells) → Bool
is_partition n groups = all (eqb 1) (tabulate n (group_count groups)) && all (group_fits n) groups

module _ (t : Table) (groups : Cells) where
  -- "Group k becomes sector k. Cells of merged rows and columns are added": what the sectors of group k sell to those of group l
  abbrev pub merged_flow : Sheet
  merged_flow k l = group_total t.sectors (cell groups k) (λ i. group_total t.sectors (cell groups l) (flow t i))

  -- and a column: what the sectors of each group have of it
  abbrev pub merged_column : Cells → Cells
  merged_column s = tabulate (length groups) (λ k. group_total t.sectors (cell groups k) (cell s))

  -- "The merged table": as many sectors as there are groups
  abbrev pub merged_table : Table
  merged_table = table_of (length groups) (matrix (length groups) merged_flow) (map merged_column t.columns)

  -- 2. "g from 1 to n. Another g fails question 2", and so does a wrong length of what is lent for the merged table
  abbrev pub group_lengths : (matrices lent : List ℕ) → List Check
  group_lengths matrices lent = single 2 (leb 1 (length groups) && leb (length groups) t.sectors) ∷ lengths (length groups) matrices lent ∷ []

  -- 18. "if a sector is in no group or in two, a group is empty, or a bit at n or above is set"
  abbrev pub partitioned : Check
  partitioned = single 18 (is_partition t.sectors groups)

  -- 19. the merged table's amounts are within their limit, and so is its E plus G: its questions 3 and 16, without a place
  abbrev pub merged_within : Check
  merged_within = single 19 (verdict (table_amounts merged_table ++ (exports_within (length groups) (exports merged_table) (adjustment merged_table) ∷ [])) []).accepted

  -- Merging asks 1, 2, 3, 16, 4, 5, 6, 18, 19; its results: `merged_table` and `group_sizes`
  abbrev pub aggregate_checks : (matrices lent : List ℕ) → List Check
  aggregate_checks matrices lent =
      size t.sectors ∷ lengths t.sectors (length t.flows ∷ []) (map length t.columns)
      ∷ group_lengths matrices lent ++ table_amounts t ++ balance_checks t ++ (partitioned ∷ merged_within ∷ [])

  -- and its answer
  unfoldable pub aggregate_report : (matrices lent : List ℕ) → Report
  aggregate_report matrices lent = verdict (aggregate_checks matrices lent) []
