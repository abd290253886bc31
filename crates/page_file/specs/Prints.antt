-- What is printed, as a text.
use Rattle.std.specs.Prelude.{◌≤◌, Result, Ok, Err}
use Rattle.model.specs.Numbers.{Cells}
use Rattle.model.specs.Table.{sector_limit}
use Rattle.model.specs.Bytes.{Bytes}
use Rattle.model.specs.Questions.{number}
use Rattle.model.specs.Page.{refusal_line, sheet}
use Rattle.model.specs.declared.Refusal.{Refusal}
use Rattle.page_file.specs.declared.Sheet.{Sheet}

-- a refusal's line, or a sheet of the first figures of four lists
abbrev pub text_of : Result Sheet Refusal → (f y value imports : Cells) → Bytes
text_of (Err e) f y value imports = refusal_line (number e.question) e.place
text_of (Ok s) f y value imports = sheet s.sectors f y value imports s.rounds

-- of at most 40 sectors
abbrev pub Few : Result Sheet Refusal → Type 0
Few (Err e) = Unit {0}
Few (Ok s) = s.sectors ≤ sector_limit
