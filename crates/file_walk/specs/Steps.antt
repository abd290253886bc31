-- What the functions of the walk owe each other. The cells lie in one list of 1,880: the 1,600 of x, then 40 for each of seven columns, so that word c of
-- a column starts at c × 40.
use Rattle.std.specs.Prelude.{List, ◌≡◌, ℕ, ◌*◌, ◌≤◌, ◌<◌, length, take, drop, Result, Ok, Err}
use Rattle.model.specs.Table.{sector_limit, sheet_limit}
use Rattle.model.specs.File.{Entry, Reading, flows_read, column_read, cell_limit, word_limit}
use Rattle.model.specs.declared.Refusal.{Refusal}
use Rattle.file_steps.specs.Steps.{Agrees, reading_refused}

-- the list holds the cells of a reading
pub record Held (o : Reading) (cells : List ℕ) : Type 0 where
  pub flows : take sheet_limit cells ≡ flows_read sheet_limit o
  pub columns : (c : ℕ) → sector_limit ≤ c → c < word_limit → take sector_limit (drop (c * sector_limit) cells) ≡ column_read c sector_limit o
  pub long : length cells ≡ cell_limit

-- both, of the cells named so far in a table of n sectors
pub record Kept (n : ℕ) (es : List Entry) (cells marks : List ℕ) : Type 0 where
  pub held : Held (Reading.table n es) cells
  pub agrees : Agrees es marks

-- the reading is a table of n sectors, the list holds its cells, and the marks are theirs
pub record Accepts (o : Reading) (n : ℕ) (cells marks : List ℕ) : Type 0 where
  pub es : List Entry
  pub same : o ≡ Reading.table n es
  pub kept : Kept n es cells marks

-- what the walk comes to at its end, and on acceptance the cells and the marks
abbrev pub Ends : Reading → Result ℕ Refusal → (cells marks : List ℕ) → Type 0
Ends o (Err e) cells marks = o ≡ reading_refused e
Ends o (Ok n) cells marks = Accepts o n cells marks
