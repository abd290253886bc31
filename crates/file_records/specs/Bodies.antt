-- What the code asks of a record before it reads the cell that the record names, and that cell.
use Rattle.std.specs.Prelude.{Bool, true, cond, ◌&&◌, List, ◌≡◌, ℕ, ◌+◌, ◌≤◌, leb, length}
use Rattle.model.specs.Numbers.{cell}
use Rattle.model.specs.File.{Entry, record_lengths, kind_at, is_flow}
use Rattle.file_records.specs.declared.NamedCell.{NamedCell}

-- its bytes are there, 7 of them if it names a cell of x, otherwise 6
abbrev pub Body : List ℕ → ℕ → Type 0
Body s at = (at + 6 ≤ length s) × (is_flow s at ≡ true → at + 7 ≤ length s) × (cell record_lengths (kind_at s at) ≡ cond (is_flow s at) 7 6)

-- a sector byte is from 1 to n
abbrev pub is_sector : ℕ → ℕ → Bool
is_sector n b = leb 1 b && leb b n

-- the named cell
abbrev pub entry_of : NamedCell → Entry
entry_of c = record { word = c.word; position = c.position; amount = c.amount }
