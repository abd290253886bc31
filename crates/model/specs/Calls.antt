-- For every call its checks in order, its report, and its results. `lent` is the lengths of the slices of n cells that a call is lent for
-- outputs and work, `matrices` of those of n × n cells. After a call an output slice holds `output report length result`, and a work slice
-- holds 0 in every cell.
use Rattle.std.specs.Prelude.{List, [], ◌∷◌, ◌++◌, map, ℕ, length}
use Rattle.model.specs.Numbers.{Cells, Sheet, tabulate, at, matrix, transposed}
use Rattle.model.specs.Table.{Table, input_coefficient, value_added_coefficient, import_coefficient, domestic_coefficient, domestic_demand, final_demand, exports, adjustment}
use Rattle.model.specs.Rounds.{settling, inverse_rounds, impact_rounds}
use Rattle.model.specs.Checks.{Report, Check, verdict, single, size, lengths, table_amounts, induced_amounts, demand_amounts, exports_within, balance_checks, column_sums, bounded, demand_limit, rise_limit, production_total, settles, columns_settle, demand_checks, both_settle}

module _ (t : Table) where
  -- The results of sheets from a table: a, v, m, d and f
  unfoldable pub input_coefficients : Cells
  input_coefficients = matrix t.sectors (input_coefficient t)

  unfoldable pub value_added_coefficients : Cells
  value_added_coefficients = tabulate t.sectors (value_added_coefficient t)

  unfoldable pub import_coefficients : Cells
  import_coefficients = tabulate t.sectors (import_coefficient t)

  unfoldable pub domestic_coefficients : Cells
  domestic_coefficients = matrix t.sectors (domestic_coefficient t)

  abbrev pub table_demand : Cells
  table_demand = domestic_demand t.sectors import_coefficients (final_demand t) (exports t) (adjustment t)

  -- what sheets from a table ask of the table itself, in order: 1, 2, 3, 16, 4, 5 and 6
  abbrev pub table_checks : (matrices lent : List ℕ) → List Check
  table_checks matrices lent =
      size t.sectors ∷ lengths t.sectors (length t.flows ∷ matrices) (map length t.columns ++ lent)
      ∷ table_amounts t ++ balance_checks t

  -- Sheets from a table ask 1 to 7, and 16 after 3
  unfoldable pub coefficients_report : (matrices lent : List ℕ) → Report
  coefficients_report matrices lent =
      verdict (table_checks matrices lent ++ (column_sums t.sectors (at t.sectors domestic_coefficients) ∷ [])) []

-- The demand for domestic goods of a final demand asks 1, 2, 3, 16; its result: `domestic_demand n m F E G`. The papers have no such call: it gives document
-- 01's f where F is that of no table
abbrev pub domestic_demand_checks : (n : ℕ) (m F E G : Cells) (lent : List ℕ) → List Check
domestic_demand_checks n m F E G lent =
    size n ∷ lengths n [] (length m ∷ length F ∷ length E ∷ length G ∷ lent) ∷ demand_amounts m F E G ++ (exports_within n E G ∷ [])

unfoldable pub domestic_demand_report : (n : ℕ) (m F E G : Cells) (lent : List ℕ) → Report
domestic_demand_report n m F E G lent = verdict (domestic_demand_checks n m F E G lent) []

module _ (n : ℕ) (d : Cells) where
  -- Every call on a domestic sheet asks 1, 2 and 7 first
  abbrev pub matrix_checks : (matrices lent : List ℕ) → List Check
  matrix_checks matrices lent = size n ∷ lengths n (length d ∷ matrices) lent ∷ column_sums n (at n d) ∷ []

  -- Production and price ask 1, 2, 7, 8, 9
  abbrev pub settling_checks : (c : Sheet) (limit : ℕ) (s : Cells) (budget : ℕ) (lent : List ℕ) → List Check
  settling_checks c limit s budget lent =
      matrix_checks [] (length s ∷ lent) ++ (bounded 8 0 limit s ∷ single 9 (settles n c s budget) ∷ [])

  abbrev pub settling_report : (c : Sheet) (limit : ℕ) (s : Cells) (budget : ℕ) (lent : List ℕ) → Report
  settling_report c limit s budget lent = verdict (settling_checks c limit s budget lent) (settling n c s budget ∷ [])

  -- its result: `settled n (at n d) f budget`
  unfoldable pub production_report : (f : Cells) (budget : ℕ) (lent : List ℕ) → Report
  production_report f budget lent = settling_report (at n d) demand_limit f budget lent

  -- its result: `settled n (transposed (at n d)) w budget`
  unfoldable pub price_report : (w : Cells) (budget : ℕ) (lent : List ℕ) → Report
  price_report w budget lent = settling_report (transposed (at n d)) rise_limit w budget lent

  -- Backwards asks 1, 2, 7, 8 (until document 02, ticket 8, also 10); its result: `implied_demand n (at n d) y`
  abbrev pub implied_checks : (y : Cells) (lent : List ℕ) → List Check
  implied_checks y lent = matrix_checks [] (length y ∷ lent) ++ (production_total n y ∷ [])

  unfoldable pub implied_report : (y : Cells) (lent : List ℕ) → Report
  implied_report y lent = verdict (implied_checks y lent) []

  -- The inverse sheet asks 1, 2, 7, 9; its results: z, which is `inverse n d budget`, `dispersion n (at n z)` and
  -- `dispersion n (transposed (at n z))`
  unfoldable pub inverse_report : (budget : ℕ) (matrices lent : List ℕ) → Report
  inverse_report budget matrices lent =
      verdict (matrix_checks matrices lent ++ (columns_settle n d budget ∷ [])) (inverse_rounds n d budget ∷ [])

  -- What a scheme adds (document 02, ticket 4) "asks what production asks, of the first demand and then of the second, at each question", and 17
  -- after 8: 1, 2, 7, 8, 8, 17, 9, 9. Its result: `impact n (at n d) before after budget`
  unfoldable pub impact_report : (before after : Cells) (budget : ℕ) (lent : List ℕ) → Report
  impact_report before after budget lent =
      verdict (matrix_checks [] (length before ∷ length after ∷ lent) ++ demand_checks n before after ++ both_settle n (at n d) before after budget)
      (impact_rounds n (at n d) before after budget ∷ [])

-- Induced amounts ask 1, 2, 3, 8; their results: `induced_value_added n v y` and `induced_imports n (at n a) m F y`
unfoldable pub induced_report : (n : ℕ) (a m v F y : Cells) (lent : List ℕ) → Report
induced_report n a m v F y lent =
    let columns = length m ∷ length v ∷ length F ∷ length y ∷ lent in
    verdict (size n ∷ lengths n (length a ∷ []) columns ∷ induced_amounts a m v F ++ (production_total n y ∷ [])) []
