-- The table that lies in the reader's cells.
use Rattle.std.specs.Prelude.{[], ◌∷◌, map, ℕ, ◌*◌, take, drop}
use Rattle.model.specs.Numbers.{Cells}
use Rattle.model.specs.Table.{Table, table_of, sector_limit}
use Rattle.model.specs.File.{column_word}

-- where the 40 cells of column c start
abbrev pub column_start : ℕ → ℕ
column_start c = column_word c * sector_limit

-- the table of n sectors that lies in one list: x row by row from its start, and each column where its word's cells start
abbrev pub table_in : ℕ → Cells → Table
table_in n cells = table_of n (take (n * n) cells) (map (λ (c : ℕ). take n (drop (column_start c) cells)) (0 ∷ 1 ∷ 2 ∷ 3 ∷ 4 ∷ 5 ∷ []))
