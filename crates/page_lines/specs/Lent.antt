-- The lines of the figures that are lent.
use Rattle.std.specs.Prelude.{ℕ, ◌≤◌, length}
use Rattle.model.specs.Bytes.{Bytes}
use Rattle.model.specs.Page.{sector_line, sheet}
use Rattle.page_lines.specs.declared.Figures.{Figures}

-- they are of at least n sectors
abbrev pub Reach : ℕ → Figures → Type 0
Reach n f = (n ≤ length f.demand.now) × (n ≤ length f.production.now) × (n ≤ length f.value.now) × (n ≤ length f.imports.now)

-- the line of sector i
abbrev pub line_lent : Figures → ℕ → Bytes
line_lent f = sector_line f.demand.now f.production.now f.value.now f.imports.now

-- the sheet of n sectors
abbrev pub sheet_lent : ℕ → Figures → (rounds : ℕ) → Bytes
sheet_lent n f = sheet n f.demand.now f.production.now f.value.now f.imports.now
