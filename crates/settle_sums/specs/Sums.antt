-- The weighted sums that a settling loop carries from round to round. Their form, one cell a sector, is known to this crate alone: others say
-- `HasSum`, `taken`, `Fits`, `SumsOf` and `Carried`, and use the laws of proofs/Carrying, but do not look inside. They are no part of the papers: no
-- contract of a public call cites them.
use Rattle.std.specs.Prelude.{Bool, true, ◌≡◌, ℕ, ◌+◌, ◌/◌, ◌≤◌, ◌<◌, length}
use Rattle.model.specs.Numbers.{Cells, one, cell}
use Rattle.model.specs.Table.{sector_limit}
use Rattle.model.specs.Rounds.{weighted}
use Rattle.theory_rounds.specs.Bounds.{sum_limit, Narrow}
use Rattle.cells.specs.Sheets.{sheet_of}
use Rattle.cells.specs.declared.matrix.Matrix.{Matrix}

-- as many cells hold the sums of any number of sectors
abbrev pub sum_cells : ℕ
sum_cells = sector_limit

-- the sums have one of sector i
unfoldable pub HasSum : (sums : Cells) (i : ℕ) → Type 0
HasSum sums i = i < length sums

-- what industry takes of sector i by its sum: the whole sum divided once by one
unfoldable pub taken : (sums : Cells) (i : ℕ) → ℕ
taken sums i = cell sums i / one

-- the sum of row i, and what the increments add to it
abbrev pub raised : (d : Matrix) (increments sums : Cells) (i : ℕ) → ℕ
raised d increments sums i = cell sums i + weighted d.sectors (sheet_of d) (cell increments) i

-- what is added: a matrix, whose cells are narrow, times an increment for each sector, which are narrow where the compiler is told so
pub record Addends (d : Matrix) (narrow : Bool) (increments : Cells) : Type 0 where
  pub sectors : length increments ≡ d.sectors
  pub coefficients : Narrow d.cells.now
  pub told : narrow ≡ true → Narrow increments

-- what the increments add to the sums stays within their limit
pub record Fits (d : Matrix) (increments sums : Cells) : Type 0 where
  pub room : d.sectors ≤ length sums
  pub within : (i : ℕ) → i < d.sectors → raised d increments sums i ≤ sum_limit

-- the sums are those of the amounts y
pub record SumsOf (d : Matrix) (sums y : Cells) : Type 0 where
  pub room : d.sectors ≤ length sums
  pub sum : (i : ℕ) → i < d.sectors → cell sums i ≡ weighted d.sectors (sheet_of d) (cell y) i

-- and with what the increments since then add they are
pub record Carried (d : Matrix) (increments sums y : Cells) : Type 0 where
  pub room : d.sectors ≤ length sums
  pub sum : (i : ℕ) → i < d.sectors → raised d increments sums i ≡ weighted d.sectors (sheet_of d) (cell y) i

-- k cells of l from cell i on are those of f, and the others those of m
pub record Written (l : Cells) (i k : ℕ) (f : ℕ → ℕ) (m : Cells) : Type 0 where
  pub part : (c : ℕ) → i ≤ c → c < i + k → cell l c ≡ f c
  pub before : (c : ℕ) → c < i → cell l c ≡ cell m c
  pub beyond : (c : ℕ) → i + k ≤ c → cell l c ≡ cell m c
