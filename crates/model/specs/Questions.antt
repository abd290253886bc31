-- Document 01, "Questions a call asks, in this order", and those of document 02: their numbers, and a refusal by one.
use Rattle.std.specs.Prelude.{ℕ}
use Rattle.model.specs.declared.Question.{Question}
use Rattle.model.specs.declared.Question.TheVariants.{Sectors, Lengths, Amounts, ColumnBalance, RowBalance, ImportsCovered, ColumnSums, Demands, Rounds, Record, Opening, SectorByte, NamedTwice, End, AdjustedExports, NotBelow, Partition, GroupTotals, Order}
use Rattle.model.specs.declared.Refusal.{Refusal}

-- the number of a question; what each asks stands where it is numbered, in Checks, File, Aggregation and Permutation
abbrev pub number : Question → ℕ
number Sectors = 1
number Lengths = 2
number Amounts = 3
number ColumnBalance = 4
number RowBalance = 5
number ImportsCovered = 6
number ColumnSums = 7
number Demands = 8
number Rounds = 9
number Record = 11
number Opening = 12
number SectorByte = 13
number NamedTwice = 14
number End = 15
number AdjustedExports = 16
number NotBelow = 17
number Partition = 18
number GroupTotals = 19
number Order = 20

-- a refusal, with its question and its place
abbrev pub refused : Question → ℕ → Refusal
refused q p = record { question = q; place = p }
