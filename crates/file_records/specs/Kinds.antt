-- The kinds of records as bytes.
use Rattle.std.specs.Prelude.{ℕ}
use Rattle.file_records.specs.declared.Kind.{Kind}
use Rattle.file_records.specs.declared.Kind.TheVariants.{Sectors, Flow, FinalDemand, Exports, Imports, ValueAdded, Production, End, Rises, Adjustment}

-- the byte of a kind
abbrev pub kind_number : Kind → ℕ
kind_number Sectors = 1
kind_number Flow = 2
kind_number FinalDemand = 3
kind_number Exports = 4
kind_number Imports = 5
kind_number ValueAdded = 6
kind_number Production = 7
kind_number End = 8
kind_number Rises = 9
kind_number Adjustment = 10
