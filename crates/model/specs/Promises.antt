-- What demands 2 and 3, and requests of document 02, promise of an accepted result. Proved in `theory` and its family, and carried by the calls' own
-- contracts.
use Rattle.std.specs.Prelude.{◌≡◌, true, [], ◌∷◌, ◌↔◌, ℕ, ◌+◌, ◌*◌, ◌-◌, ◌≤◌, ◌<◌, length}
use Rattle.model.specs.Numbers.{Cells, Sheet, SignedCells, signed, one, sum, cell, at, transposed, column_sum, all_cells}
use Rattle.model.specs.Table.{Table, sector_limit, portion, column, imports, value_added, production, flow, need}
use Rattle.model.specs.Checks.{column_limit, rise_limit}
use Rattle.model.specs.Rounds.{settling, settled, Settles, ExactBalance, shortfall}
use Rattle.model.specs.Calls.{coefficients_report, input_coefficients, value_added_coefficients, import_coefficients, domestic_coefficients, table_demand, production_report, price_report}
use Rattle.model.specs.Permutation.{permuted_column, permuted_sheet}

-- question 7 is answered yes
abbrev pub LowColumns : ℕ → Sheet → Type 0
LowColumns n c = (j : ℕ) → j < n → column_sum n c j ≤ column_limit

-- A domestic sheet is accepted: n from 1 to 40, n × n cells, question 7 answered yes
pub record AcceptedMatrix (n : ℕ) (d : Cells) : Type 0 where
  pub some : 1 ≤ n
  pub few : n ≤ sector_limit
  pub cells : length d ≡ n * n
  pub low : LowColumns n (at n d)

-- equal in every sector
abbrev pub Equal : ℕ → Cells → Cells → Type 0
Equal n a b = (i : ℕ) → i < n → cell a i ≡ cell b i

-- Demand 3, first half, of the production y of a demand f: against every demand g that settles, with production z
abbrev pub Distinguishes : (n : ℕ) (d f y : Cells) → Type 0
Distinguishes n d f y = (g z : Cells) (k : ℕ) → Settles n (at n d) g k z → Equal n y z ↔ Equal n f g

-- Demand 3, second half: against every exact balance y is nowhere too high, and all sectors together lack less than 20 × n
pub record NearBalance (n : ℕ) (y : Cells) (q : ℕ) (b : ℕ → ℕ) : Type 0 where
  pub nowhere_too_high : (i : ℕ) → i < n → q * cell y i ≤ b i
  pub together : sum n (shortfall q b y) < 20 * q * n

abbrev pub Accurate : (n : ℕ) (d f y : Cells) → Type 0
Accurate n d f y = (q : ℕ) (b : ℕ → ℕ) → ExactBalance n (at n d) f q b → NearBalance n y q b

-- Prices: nowhere above an exact balance of the column direction, and in each sector less than 20 millionths below it
pub record NearPrices (n : ℕ) (r : Cells) (q : ℕ) (b : ℕ → ℕ) : Type 0 where
  pub nowhere_above : (i : ℕ) → i < n → q * cell r i ≤ b i
  pub each : (i : ℕ) → i < n → shortfall q b r i < 20 * q

abbrev pub AccuratePrices : (n : ℕ) (d w r : Cells) → Type 0
AccuratePrices n d w r = (q : ℕ) (b : ℕ → ℕ) → ExactBalance n (transposed (at n d)) w q b → NearPrices n r q b

-- Demand 2, of the demand f behind a production y: going forward and then back returns the demand, of any demand g that settles at y
abbrev pub Returns : (n : ℕ) (d y : Cells) (f : SignedCells) → Type 0
Returns n d y f = (g : Cells) (k : ℕ) → length g ≡ n → Settles n (at n d) g k y → f ≡ signed g

-- Going back and then forward need not return; what holds, where f has no sector below 0 and so is a demand g, is that the production z settled from g
-- is nowhere above y
abbrev pub NotAbove : (n : ℕ) (d y : Cells) (f : SignedCells) → Type 0
NotAbove n d y f = (g z : Cells) (k : ℕ) → f ≡ signed g → Settles n (at n d) g k z → (i : ℕ) → i < n → cell z i ≤ cell y i

-- Document 02, ticket 4: two starts, "the second nowhere below the first"
abbrev pub NowhereBelow : ℕ → Cells → Cells → Type 0
NowhereBelow n s t = (i : ℕ) → i < n → cell s i ≤ cell t i

-- what is added to sector i from the start s to the start t. Below 0 a difference counts as 0, but t is nowhere below s
abbrev pub added : Cells → Cells → ℕ → ℕ
added s t i = cell t i - cell s i

-- What is ordered inside the region of what is spent on the goods of each sector, with import shares m
pub record OrderedInside (n : ℕ) (m : Cells) (spent ordered : ℕ → ℕ) : Type 0 where
  -- nowhere more than is spent
  pub at_most : (i : ℕ) → i < n → ordered i ≤ spent i
  -- and all of it where nothing is imported
  pub whole : (i : ℕ) → i < n → cell m i ≡ 0 → ordered i ≡ spent i
  -- it is what is not imported of the spending, rounded down, or one more: both demands are rounded
  pub at_least : (i : ℕ) → i < n → portion (one - cell m i) (spent i) ≤ ordered i
  pub near : (i : ℕ) → i < n → ordered i ≤ portion (one - cell m i) (spent i) + 1

-- r is the rise from the amounts y to the amounts z, which are settled from the starts s and t
pub record Rises (n : ℕ) (s t y z r : Cells) : Type 0 where
  -- y with the rise is z: "no sector falls"
  pub exact : (i : ℕ) → i < n → cell y i + cell r i ≡ cell z i
  -- "each sector rises by at least what was added to it"
  pub each : (i : ℕ) → i < n → added s t i ≤ cell r i
  -- "the total rise is less than 20 × T + 20 × n", with T the total added
  pub total : sum n (cell r) < 20 * sum n (added s t) + 20 * n

-- Document 02, ticket 6: how far k millionths of whole are from part, in millionths of a unit. A difference below 0 is 0, so one of the two is
abbrev pub deviation : (part whole k : ℕ) → ℕ
deviation part whole k = (part * one - k * whole) + (k * whole - part * one)

-- s millionths are the share of part in whole
pub record NearestShare (part whole s : ℕ) : Type 0 where
  -- "to the nearest millionth": no other number of millionths is nearer
  pub nearest : (k : ℕ) → deviation part whole s ≤ deviation part whole k
  -- "halves upward": none that is as near is larger
  pub halves_upward : 0 < whole → (k : ℕ) → deviation part whole k ≡ deviation part whole s → k ≤ s
  -- the share in nothing is 0
  pub of_nothing : whole ≡ 0 → s ≡ 0
  -- and no share is over one
  pub within_one : s ≤ one

-- "print a, v and m to the nearest millionth, halves upward"
pub record NearestShares (t : Table) (a v m : Cells) : Type 0 where
  pub inputs : (i j : ℕ) → i < t.sectors → j < t.sectors → NearestShare (flow t i j) (cell (production t) j) (at t.sectors a i j)
  pub values : (j : ℕ) → j < t.sectors → NearestShare (cell (value_added t) j) (cell (production t) j) (cell v j)
  pub imported : (i : ℕ) → i < t.sectors → NearestShare (cell (imports t) i) (need t i) (cell m i)

-- Document 02, ticket 7: "the totals of x, F, E, M, V, X and G equal those before, as sums over the original cells"
pub record SameTotals (t u : Table) : Type 0 where
  pub flows : all_cells u.sectors (flow u) ≡ all_cells t.sectors (flow t)
  pub columns : (c : ℕ) → sum u.sectors (cell (column u c)) ≡ sum t.sectors (cell (column t c))

-- Document 02, ticket 9, a list of n sectors and "the inverse list": they undo one another
pub record Undoes (n : ℕ) (order inverse : Cells) : Type 0 where
  pub sectors : (k : ℕ) → k < n → cell order k < n
  pub places : (s : ℕ) → s < n → cell inverse s < n
  pub undo : (k : ℕ) → k < n → cell inverse (cell order k) ≡ k
  pub redo : (s : ℕ) → s < n → cell order (cell inverse s) ≡ s

-- "sheets from the old table are accepted": into slices of the right lengths
abbrev pub SheetsGiven : Table → Type 0
SheetsGiven t = let n = t.sectors in (coefficients_report t (n * n ∷ n * n ∷ []) (n ∷ n ∷ n ∷ [])).accepted ≡ true

-- "the old ones rearranged", of the sheets of a table u against those of t: a and d in their rows and columns
pub record SheetsPermuted (order : Cells) (t u : Table) : Type 0 where
  pub inputs : input_coefficients u ≡ permuted_sheet t.sectors order (input_coefficients t)
  pub values : value_added_coefficients u ≡ permuted_column t.sectors order (value_added_coefficients t)
  pub imported : import_coefficients u ≡ permuted_column t.sectors order (import_coefficients t)
  pub domestic : domestic_coefficients u ≡ permuted_sheet t.sectors order (domestic_coefficients t)
  pub demands : table_demand u ≡ permuted_column t.sectors order (table_demand t)

-- and of what settles by coefficients e against what settles by c: from every start rearranged alike, "with the same count of rounds"
pub record RoundsPermuted (n : ℕ) (order : Cells) (c e : Sheet) : Type 0 where
  -- where a start settles, the start rearranged does, after as many rounds; and the other way round
  pub settles : (s y : Cells) (k : ℕ) → length y ≡ n → Settles n c s k y ↔ Settles n e (permuted_column n order s) k (permuted_column n order y)
  -- and so it is with every budget
  pub rounds : (s : Cells) (budget : ℕ) → settling n e (permuted_column n order s) budget ≡ settling n c s budget
  pub amounts : (s : Cells) (budget : ℕ) → settled n e (permuted_column n order s) budget ≡ permuted_column n order (settled n c s budget)

-- "production settled from f": so it is with production from every demand, and from f, whatever the budget, the answer is the same
pub record ProductionsPermuted (order : Cells) (t u : Table) : Type 0 where
  pub settled : RoundsPermuted t.sectors order (at t.sectors (domestic_coefficients t)) (at t.sectors (domestic_coefficients u))
  pub answers : (budget : ℕ)
      → let n = t.sectors in
      production_report n (domestic_coefficients u) (table_demand u) budget (n ∷ n ∷ []) ≡ production_report n (domestic_coefficients t) (table_demand t) budget (n ∷ n ∷ [])

-- "and prices from direct rises rearranged alike": so it is with prices, and from rises w within their limit the answer is the same
pub record PricesPermuted (order : Cells) (t u : Table) : Type 0 where
  pub settled : RoundsPermuted t.sectors order (transposed (at t.sectors (domestic_coefficients t))) (transposed (at t.sectors (domestic_coefficients u)))
  pub answers : (w : Cells) (budget : ℕ) → length w ≡ t.sectors → ((i : ℕ) → i < t.sectors → cell w i ≤ rise_limit)
      → let n = t.sectors in
      price_report n (domestic_coefficients u) (permuted_column n order w) budget (n ∷ n ∷ []) ≡ price_report n (domestic_coefficients t) w budget (n ∷ n ∷ [])
