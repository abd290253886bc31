-- Document 01, "The table and its units" and "The sheets, all rounded down"; document 02, ticket 6, by which a, v and m are to the nearest millionth and
-- only d and f are still rounded down. A quotient by 0 is 0.
use Rattle.std.specs.Prelude.{Bool, ◌&&◌, List, [], ◌∷◌, ℕ, ◌+◌, ◌*◌, ◌-◌, ◌/◌, leb, get_or}
use Rattle.model.specs.Numbers.{Cells, Sheet, one, sum, tabulate, cell, at}

-- "n sectors, 1 to 40"
abbrev pub sector_limit : ℕ
sector_limit = 40

-- n is such a number
abbrev pub few_sectors : ℕ → Bool
few_sectors n = leb 1 n && leb n sector_limit

-- the cells of the largest sheet: 1,600
abbrev pub sheet_limit : ℕ
sheet_limit = sector_limit * sector_limit

-- A table: n sectors, x row by row, and its columns of n cells, in the paper's order
pub record Table : Type 0 where
  pub sectors : ℕ
  pub flows : Cells
  pub columns : List Cells

abbrev pub table_of : ℕ → Cells → List Cells → Table
table_of n x columns = record { sectors = n; flows = x; columns = columns }

-- by all that it has, in the order in which a call is lent it: "F, E, M, V, X", and G of document 02, ticket 3
abbrev pub table_by : (n : ℕ) (x f e m v p g : Cells) → Table
table_by n x f e m v p g = table_of n x (f ∷ e ∷ m ∷ v ∷ p ∷ g ∷ [])

module _ (t : Table) where
  -- column c, and no cell where the table has no such column
  abbrev pub column : ℕ → Cells
  column c = get_or t.columns c []

  -- by their names: F, E, M, V, X, and G, the adjustment item of document 02, ticket 3
  abbrev pub final_demand : Cells
  final_demand = column 0

  abbrev pub exports : Cells
  exports = column 1

  abbrev pub imports : Cells
  imports = column 2

  abbrev pub value_added : Cells
  value_added = column 3

  abbrev pub production : Cells
  production = column 4

  abbrev pub adjustment : Cells
  adjustment = column 5

-- E(i) + G(i), which come in whole
abbrev pub adjusted_exports : (E G : Cells) → ℕ → ℕ
adjusted_exports E G i = cell E i + cell G i

-- A quotient to the nearest whole number, "halves upward": half a divisor is added and it is rounded down. All is doubled, for odd divisors
abbrev pub nearest : ℕ → ℕ → ℕ
nearest a b = (2 * a + b) / (2 * b)

-- part of whole, "to the nearest millionth"; 0 where the whole is 0
abbrev pub share : ℕ → ℕ → ℕ
share part whole = nearest (part * one) whole

-- the part of an amount that a share in millionths takes, rounded down
abbrev pub portion : ℕ → ℕ → ℕ
portion m amount = m * amount / one

-- Domestic need of sector i: what all sectors buy of it, and final demand; exports are not in it, nor is the adjustment item
unfoldable pub absorption : (n : ℕ) (x F : Cells) → ℕ → ℕ
absorption n x F i = sum n (at n x i) + cell F i

module _ (t : Table) where
  -- x(i,j)
  abbrev pub flow : Sheet
  flow = at t.sectors t.flows

  abbrev pub need : ℕ → ℕ
  need = absorption t.sectors t.flows (final_demand t)

  -- Input coefficient a(i,j)
  unfoldable pub input_coefficient : Sheet
  input_coefficient i j = share (flow i j) (cell (production t) j)

  -- Value share v(j)
  unfoldable pub value_added_coefficient : ℕ → ℕ
  value_added_coefficient j = share (cell (value_added t) j) (cell (production t) j)

  -- Import share m(i)
  unfoldable pub import_coefficient : ℕ → ℕ
  import_coefficient i = share (cell (imports t) i) (need i)

  -- Domestic coefficient d(i,j)
  unfoldable pub domestic_coefficient : Sheet
  domestic_coefficient i j = portion (one - import_coefficient i) (input_coefficient i j)

-- Demand for domestic goods f(i), with import shares m: what is not imported of final demand; exports come in whole, and the adjustment item "is added
-- whole to f"
unfoldable pub domestic_demand : (n : ℕ) (m F E G : Cells) → Cells
domestic_demand n m F E G = tabulate n (λ i. portion (one - cell m i) (cell F i) + adjusted_exports E G i)
