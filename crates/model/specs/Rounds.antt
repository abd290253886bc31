-- Document 01, "Rounds". A coefficient function c gives the direction of a domestic matrix d: production reads `at n d`, prices read
-- `transposed (at n d)`. The start s is a demand for domestic goods, or a direct rise.
use Rattle.std.specs.Prelude.{◌≡◌, Bool, true, false, not, ◌&&◌, cond, [], ℕ, zero, suc, ◌+◌, ◌*◌, ◌-◌, ◌/◌, ◌≤◌, ◌<◌, max, eqb, ltb, length, take, drop}
use Rattle.std.proofs.Math.IntN.{sub_ℕ}
use Rattle.model.specs.Numbers.{Cells, Sheet, SignedCells, one, sum, largest, first, tabulate, cell, same, at, matrix, column_sum, all_cells}
use Rattle.model.specs.Table.{portion, few_sectors}

-- c(i,j) × amount(j)
abbrev pub product : Sheet → (ℕ → ℕ) → ℕ → ℕ → ℕ
product c a i j = c i j * a j

-- the sum over j of c(i,j) × amount(j)
abbrev pub weighted : ℕ → Sheet → (ℕ → ℕ) → ℕ → ℕ
weighted n c a i = sum n (product c a i)

-- What industry takes, or what is passed on: the whole sum divided once by one
unfoldable pub intermediate : ℕ → Sheet → (ℕ → ℕ) → ℕ → ℕ
intermediate n c a i = weighted n c a i / one

module _ (n : ℕ) (c : Sheet) (start : Cells) where
  -- A round: every sector uses the amounts y of the round before
  unfoldable pub round : (y : Cells) → Cells
  round y = tabulate n (λ i. cell start i + intermediate n c (cell y) i)

  -- the amounts after k rounds; the start is the demand itself
  unfoldable pub rounds : (k : ℕ) → Cells
  rounds zero = start
  rounds (suc k) = round (rounds k)

  -- round k changes a sector. Rounds are counted from 1: there is no round 0, and it counts as one that changes
  unfoldable pub changes : (k : ℕ) → Bool
  changes zero = true
  changes (suc k) = not (same n (rounds (suc k)) (rounds k))

  -- The count of rounds: the least k whose round changes no sector, if it is within the budget; else one more than the budget
  unfoldable pub settling : (budget : ℕ) → ℕ
  settling budget = first (suc budget) changes

  -- the amounts after that round: the settled production, or price rise
  unfoldable pub settled : (budget : ℕ) → Cells
  settled budget = rounds (settling budget)

-- A start settles, without a budget: round k is the first that changes no sector, and y is the amounts after it
pub record Settles (n : ℕ) (c : Sheet) (s : Cells) (k : ℕ) (y : Cells) : Type 0 where
  pub unchanged : changes n c s k ≡ false
  pub earlier : (j : ℕ) → j < k → changes n c s j ≡ true
  pub amounts : y ≡ rounds n c s k

-- An exact balance over a start: it stands for the amounts b(i) / q
pub record ExactBalance (n : ℕ) (c : Sheet) (s : Cells) (q : ℕ) (b : ℕ → ℕ) : Type 0 where
  pub divisor : 1 ≤ q
  pub balance : (i : ℕ) → i < n → one * b i ≡ one * q * cell s i + weighted n c b i

-- what sector i of the amounts y lacks against it
abbrev pub shortfall : ℕ → (ℕ → ℕ) → Cells → ℕ → ℕ
shortfall q b y i = b i - q * cell y i

-- Backwards: the demand behind a production y, "production(i) minus what industry takes". "A signed demand for each sector" (document 02, ticket 8):
-- below 0 where industry takes more than there is. `sub_ℕ a b` is a - b, below 0 too
unfoldable pub implied_demand : ℕ → Sheet → Cells → SignedCells
implied_demand n c y = tabulate n (λ i. sub_ℕ (cell y i) (intermediate n c (cell y) i))

-- Induced value added, and induced imports, at a production y
unfoldable pub induced_value_added : (n : ℕ) (v y : Cells) → Cells
induced_value_added n v y = tabulate n (λ j. portion (cell v j) (cell y j))

unfoldable pub induced_imports : (n : ℕ) (a : Sheet) (m F y : Cells) → Cells
induced_imports n a m F y = tabulate n (λ i. portion (cell m i) (intermediate n a (cell y) i + cell F i))

-- a demand of one in sector j and 0 elsewhere
unfoldable pub unit : ℕ → ℕ → Cells
unit n j = tabulate n (λ i. cond (eqb i j) one 0)

-- The inverse sheet (Leontief inverse): column j is the production settled from one in sector j. The budget holds for each column
unfoldable pub inverse : (n : ℕ) (d : Cells) (budget : ℕ) → Cells
inverse n d budget = matrix n (λ i j. cell (settled n (at n d) (unit n j) budget) i)

-- its count of rounds: the largest of the columns'
unfoldable pub inverse_rounds : (n : ℕ) (d : Cells) (budget : ℕ) → ℕ
inverse_rounds n d budget = largest n (λ j. settling n (at n d) (unit n j) budget)

-- Influence ratios over an inverse z (power of dispersion): "column sum × n × one / sum of all cells". The sensitivity ratios (sensitivity of
-- dispersion), by row sums, are those of the sheet with its rows and columns exchanged
unfoldable pub dispersion : ℕ → Sheet → Cells
dispersion n z = tabulate n (λ j. column_sum n z j * n * one / all_cells n z)

-- A sheet of so many cells has a row for a sector: questions 1 and 2 pass, and the sector is below n
abbrev pub has_row : (n cells sector : ℕ) → Bool
has_row n cells sector = few_sectors n && eqb (n * n) cells && ltb sector n

-- A sector's row of a sheet: n cells from sector × n; empty where there is none
unfoldable pub row_slice : (n : ℕ) (d : Cells) (sector : ℕ) → Cells
row_slice n d i = cond (has_row n (length d) i) (take n (drop (i * n) d)) []

-- What a scheme adds (document 02, ticket 4): the rise of each sector's production from the start s to the start t. The budget holds for each start
-- separately
unfoldable pub impact : (n : ℕ) (c : Sheet) (s t : Cells) (budget : ℕ) → Cells
impact n c s t budget = tabulate n (λ i. cell (settled n c t budget) i - cell (settled n c s budget) i)

-- its count of rounds: the larger of the two
unfoldable pub impact_rounds : (n : ℕ) (c : Sheet) (s t : Cells) (budget : ℕ) → ℕ
impact_rounds n c s t budget = max (settling n c s budget) (settling n c t budget)
