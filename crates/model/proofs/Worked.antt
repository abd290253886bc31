-- Document 01, "Worked table and its neighbours": P1 to P12 as rows of one table. The checker computes both columns. Assumes nothing.
use mathlib.Core.Path.{◌≡◌, refl}
use mathlib.Core.Bool.{true, cond}
use mathlib.Core.List.{List, [], ◌∷◌, ◌++◌, map}
use Prim.Native.Nat.{ℕ, ◌+◌, ◌*◌}
use lib.Dec.{eqb}
use lib.IntN.{ℤ, pos, neg_ℤ}
use lib.ListN.{length, replicate}
use Rattle.model.specs.Numbers.{one, signed, tabulate, cell, at, transposed}
use Rattle.model.specs.Table.{Table, table_by, share, absorption, input_coefficient, value_added_coefficient, import_coefficient, domestic_coefficient, domestic_demand}
use Rattle.model.specs.Rounds.{weighted, intermediate, round, rounds, changes, settling, settled, implied_demand, induced_value_added, induced_imports, unit, inverse, inverse_rounds, dispersion, row_slice, impact, impact_rounds}
use Rattle.model.specs.Checks.{Report, accepts, refuses, output, signed_output, production_budget, price_budget}
use Rattle.model.specs.Calls.{coefficients_report, input_coefficients, value_added_coefficients, import_coefficients, domestic_coefficients, table_demand, domestic_demand_report, production_report, price_report, implied_report, induced_report, inverse_report, impact_report}
use Rattle.model.specs.Aggregation.{merged_table, group_total, group_sizes, aggregate_report}
use Rattle.model.specs.Permutation.{inverse_list, permuted_sheet, permuted_table, permute_report}
use Rattle.model.specs.Unsigned.{unsigned_report, unsigned_demand}

-- what a call says, and its output slices after it, which may hold numbers below 0
pub record Result : Type 0 where
  pub said : Report
  pub outputs : List (List ℤ)

-- what the definitions give, and what the paper says
pub record Row : Type 0 where
  pub given : Result
  pub stated : Result

infix 68 ◌⊳◌ ◌leaving◌ ◌leaving_signed◌
abbrev ◌⊳◌ : Result → Result → Row
g ⊳ s = record { given = g; stated = s }

-- a report, and what the call leaves in its output slices
abbrev ◌leaving_signed◌ : Report → List (List ℤ) → Result
r leaving_signed cells = record { said = r; outputs = cells }

abbrev ◌leaving◌ : Report → List (List ℕ) → Result
r leaving cells = r leaving_signed map signed cells

abbrev minus : ℕ → ℤ
minus k = neg_ℤ (pos k)

-- ---- the calls, each lent slices of the right lengths
abbrev coefficients_of : Table → Result
coefficients_of t =
    let n = t.sectors in
    let r = coefficients_report t (n * n ∷ n * n ∷ []) (n ∷ n ∷ n ∷ []) in
    r leaving
    (output r (n * n) (input_coefficients t)
    ∷ output r n (value_added_coefficients t)
    ∷ output r n (import_coefficients t)
    ∷ output r (n * n) (domestic_coefficients t)
    ∷ output r n (table_demand t)
    ∷ [])

module _ (n : ℕ) (d : List ℕ) where
  abbrev production_of : List ℕ → ℕ → Result
  production_of f budget =
      let r = production_report n d f budget (n ∷ n ∷ []) in
      r leaving (output r n (settled n (at n d) f budget) ∷ [])

  abbrev price_of : List ℕ → ℕ → Result
  price_of w budget =
      let r = price_report n d w budget (n ∷ n ∷ []) in
      r leaving (output r n (settled n (transposed (at n d)) w budget) ∷ [])

  abbrev implied_of : List ℕ → Result
  implied_of y =
      let r = implied_report n d y (n ∷ []) in
      r leaving_signed (signed_output r n (implied_demand n (at n d) y) ∷ [])

  -- document 01's call
  abbrev unsigned_of : List ℕ → Result
  unsigned_of y =
      let r = unsigned_report n d y (n ∷ []) in
      r leaving (output r n (unsigned_demand n (at n d) y) ∷ [])

  abbrev impact_of : List ℕ → List ℕ → ℕ → Result
  impact_of before after budget =
      let r = impact_report n d before after budget (n ∷ n ∷ []) in
      r leaving (output r n (impact n (at n d) before after budget) ∷ [])

  abbrev inverse_of : ℕ → Result
  inverse_of budget =
      let r = inverse_report n d budget (n * n ∷ []) (n ∷ n ∷ []) in
      r leaving
      (output r (n * n) (inverse n d budget)
      ∷ output r n (dispersion n (at n (inverse n d budget)))
      ∷ output r n (dispersion n (transposed (at n (inverse n d budget))))
      ∷ [])

  -- here d stands for the input coefficients a
  abbrev induced_of : (m v F y : List ℕ) → Result
  induced_of m v F y =
      let r = induced_report n d m v F y (n ∷ n ∷ []) in
      r leaving (output r n (induced_value_added n v y) ∷ output r n (induced_imports n (at n d) m F y) ∷ [])

  -- the two sides of an exact balance b / q over a start s
  abbrev pub left_side : List ℕ → List ℕ
  left_side b = tabulate n (λ i. one * cell b i)

  abbrev pub right_side : List ℕ → ℕ → List ℕ → List ℕ
  right_side s q b = tabulate n (λ i. one * q * cell s i + weighted n (at n d) (cell b) i)

-- 1 × b is an exact balance of the start s: its two sides are equal
abbrev balance : ℕ → List ℕ → List ℕ → List ℕ → Row
balance n d s b = (accepts [] leaving (left_side n d b ∷ [])) ⊳ (accepts [] leaving (right_side n d s 1 b ∷ []))

-- ---- the worked table
-- with these imports and this adjustment item
abbrev worked_with : (imports adjustment : List ℕ) → Table
worked_with imports adjustment =
    table_by 2 (100 ∷ 400 ∷ 300 ∷ 600 ∷ []) (500 ∷ 900 ∷ []) (250 ∷ 560 ∷ []) imports (600 ∷ 1000 ∷ []) (1000 ∷ 2000 ∷ []) adjustment

abbrev table : Table
table = worked_with (250 ∷ 360 ∷ []) (0 ∷ 0 ∷ [])

abbrev pub d : List ℕ
d = 75000 ∷ 150000 ∷ 240000 ∷ 240000 ∷ []

abbrev pub f : List ℕ
f = 625 ∷ 1280 ∷ []

unfoldable pub rows : List Row
rows =
    -- P1: accepted, with a, v, m, d and f
    coefficients_of table
    ⊳ (accepts [] leaving ((100000 ∷ 200000 ∷ 300000 ∷ 300000 ∷ []) ∷ (600000 ∷ 500000 ∷ []) ∷ (250000 ∷ 200000 ∷ []) ∷ d ∷ f ∷ []))
    -- P2, at the least budget and at the largest, and its exact balance; P3
    ∷ production_of 2 d f 9 ⊳ (accepts (9 ∷ []) leaving ((999 ∷ 1999 ∷ []) ∷ []))
    ∷ production_of 2 d f 4294967295 ⊳ (accepts (9 ∷ []) leaving ((999 ∷ 1999 ∷ []) ∷ []))
    ∷ balance 2 d f (1000 ∷ 2000 ∷ [])
    ∷ production_of 2 d f 8 ⊳ (refuses 1 9 0 leaving ((0 ∷ 0 ∷ []) ∷ []))
    -- P4 to P6; P6 as document 02, ticket 8, has it
    ∷ implied_of 2 d (999 ∷ 1999 ∷ []) ⊳ (accepts [] leaving (f ∷ []))
    ∷ implied_of 2 d (1000 ∷ 2000 ∷ []) ⊳ (accepts [] leaving (f ∷ []))
    ∷ implied_of 2 d (0 ∷ 1000 ∷ []) ⊳ (accepts [] leaving_signed ((minus 150 ∷ pos 760 ∷ []) ∷ []))
    -- P7
    ∷ price_of 2 d (10000 ∷ 0 ∷ []) 4294967295 ⊳ (accepts (10 ∷ []) leaving ((11393 ∷ 2248 ∷ []) ∷ []))
    -- P8 and its exact balance; P9; P10
    ∷ production_of 1 (950000 ∷ []) (1 ∷ []) 4294967295 ⊳ (accepts (1 ∷ []) leaving ((1 ∷ []) ∷ []))
    ∷ balance 1 (950000 ∷ []) (1 ∷ []) (20 ∷ [])
    ∷ production_of 1 (950001 ∷ []) (1 ∷ []) 4294967295 ⊳ (refuses 1 7 0 leaving ((0 ∷ []) ∷ []))
    ∷ production_of 2 d (0 ∷ 0 ∷ []) 4294967295 ⊳ (accepts (1 ∷ []) leaving ((0 ∷ 0 ∷ []) ∷ []))
    -- P11
    ∷ production_of 0 [] [] 4294967295 ⊳ (refuses 1 1 0 leaving ([] ∷ []))
    ∷ production_of 41 [] [] 4294967295 ⊳ (refuses 1 1 0 leaving (tabulate 41 (λ _. 0) ∷ []))
    -- P12: the inverse cell, its influence and its sensitivity
    ∷ inverse_of 1 (500000 ∷ []) 4294967295 ⊳ (accepts (21 ∷ []) leaving ((1999999 ∷ []) ∷ (1000000 ∷ []) ∷ (1000000 ∷ []) ∷ []))
    ∷ []

-- Theorem, for the reader: every case above is answered as the paper states it
pub worked : map (λ (r : Row). r.given) rows ≡ map (λ (r : Row). r.stated) rows
unfolding rows coefficients_report input_coefficients value_added_coefficients import_coefficients domestic_coefficients production_report price_report implied_report inverse_report absorption input_coefficient value_added_coefficient import_coefficient domestic_coefficient domestic_demand intermediate round rounds changes settling settled implied_demand unit inverse inverse_rounds dispersion
worked = refl

-- Theorem, for the reader: document 01, "Slips the worked table shows up", where no call shows them: the first sector after round 2, the rise of sector 1
-- after the first round of P7, and the amounts after round 7 of P2, which the next round changes
pub slips :
    ◌≡◌ {A = List ℕ}
    (cell (rounds 2 (at 2 d) f 2) 0 ∷ cell (rounds 2 (transposed (at 2 d)) (10000 ∷ 0 ∷ []) 1) 1 ∷ rounds 2 (at 2 d) f 7)
    (950 ∷ 1500 ∷ 999 ∷ 1998 ∷ [])
    × (changes 2 (at 2 d) f 8 ≡ true)
unfolding rounds round intermediate changes
slips = (refl, refl)

-- ---- document 01, "Questions a call asks, in this order": limits, places, and the first of several faults
-- two sectors that buy nothing; and two of which only the second buys, from both, so that its column takes more rounds
abbrev idle : List ℕ
idle = 0 ∷ 0 ∷ 0 ∷ 0 ∷ []

abbrev buying : List ℕ
buying = 0 ∷ 20000 ∷ 0 ∷ 10000 ∷ []

-- 950,001 in column 1
abbrev too_much : List ℕ
too_much = 0 ∷ 950000 ∷ 0 ∷ 1 ∷ []

-- what a call leaves in a column of two sectors; and what a refused one leaves of induced amounts
abbrev leaves : ℕ → ℕ → List (List ℕ)
leaves a b = (a ∷ b ∷ []) ∷ []

abbrev nothing_induced : List (List ℕ)
nothing_induced = (0 ∷ 0 ∷ []) ∷ (0 ∷ 0 ∷ []) ∷ []

unfoldable pub question_rows : List Row
question_rows =
    -- 7 adds up columns: 950,001 in a row passes
    production_of 2 (950000 ∷ 1 ∷ 0 ∷ 0 ∷ []) (0 ∷ 0 ∷ []) 1 ⊳ (accepts (1 ∷ []) leaving leaves 0 0)
    ∷ production_of 2 too_much (0 ∷ 0 ∷ []) 1 ⊳ (refuses 1 7 1 leaving leaves 0 0)
    -- 8: a demand of 2,000,000,000, a direct rise of 1,000,000,000, a production of 1,600,000,000,000 in all; and one more
    ∷ production_of 2 idle (0 ∷ 2000000000 ∷ []) 1 ⊳ (accepts (1 ∷ []) leaving leaves 0 2000000000)
    ∷ production_of 2 idle (0 ∷ 2000000001 ∷ []) 1 ⊳ (refuses 1 8 1 leaving leaves 0 0)
    ∷ price_of 2 idle (0 ∷ 1000000000 ∷ []) 1 ⊳ (accepts (1 ∷ []) leaving leaves 0 1000000000)
    ∷ price_of 2 idle (0 ∷ 1000000001 ∷ []) 1 ⊳ (refuses 1 8 1 leaving leaves 0 0)
    ∷ implied_of 2 idle (1600000000000 ∷ 0 ∷ []) ⊳ (accepts [] leaving leaves 1600000000000 0)
    ∷ implied_of 2 idle (1600000000000 ∷ 1 ∷ []) ⊳ (refuses 0 8 1 leaving leaves 0 0)
    ∷ implied_of 2 idle (1600000000001 ∷ 0 ∷ []) ⊳ (refuses 0 8 0 leaving leaves 0 0)
    -- the inverse: the larger count of its columns, and 9 at the first column that does not settle
    ∷ inverse_of 2 buying 4 ⊳ (accepts (4 ∷ []) leaving ((1000000 ∷ 20202 ∷ 0 ∷ 1010101 ∷ []) ∷ (985074 ∷ 1014925 ∷ []) ∷ (1004975 ∷ 995024 ∷ []) ∷ []))
    ∷ inverse_of 2 buying 3 ⊳ (refuses 1 9 1 leaving (idle ∷ (0 ∷ 0 ∷ []) ∷ (0 ∷ 0 ∷ []) ∷ []))
    -- induced amounts of the worked table. What industry needs is rounded down before the import share is taken: 700,000 of 1, not of 1.5
    ∷ induced_of 2 (100000 ∷ 200000 ∷ 300000 ∷ 300000 ∷ []) (250000 ∷ 200000 ∷ []) (600000 ∷ 500000 ∷ []) (500 ∷ 900 ∷ []) (999 ∷ 1999 ∷ [])
    ⊳ (accepts [] leaving ((599 ∷ 999 ∷ []) ∷ (249 ∷ 359 ∷ []) ∷ []))
    ∷ induced_of 1 (500000 ∷ []) (700000 ∷ []) (999999 ∷ []) (1 ∷ []) (1 ∷ []) ⊳ (accepts [] leaving ((0 ∷ []) ∷ (0 ∷ []) ∷ []))
    -- 3 of their shares, of one and of one more, through a, m and v; then of F, of 1,000,000,000 and of one more; 8 after it
    ∷ induced_of 1 (1000000 ∷ []) (1000000 ∷ []) (1000000 ∷ []) (1000000000 ∷ []) (1 ∷ []) ⊳ (accepts [] leaving ((1 ∷ []) ∷ (1000000001 ∷ []) ∷ []))
    ∷ induced_of 2 (0 ∷ 0 ∷ 0 ∷ 1000001 ∷ []) (1000001 ∷ 0 ∷ []) (1000001 ∷ 0 ∷ []) (1000000001 ∷ 0 ∷ []) (1600000000001 ∷ 0 ∷ []) ⊳ (refuses 0 3 3 leaving nothing_induced)
    ∷ induced_of 2 idle (0 ∷ 1000001 ∷ []) (1000001 ∷ 0 ∷ []) (1000000001 ∷ 0 ∷ []) (1600000000001 ∷ 0 ∷ []) ⊳ (refuses 0 3 5 leaving nothing_induced)
    ∷ induced_of 2 idle (0 ∷ 0 ∷ []) (0 ∷ 1000001 ∷ []) (1000000001 ∷ 0 ∷ []) (1600000000001 ∷ 0 ∷ []) ⊳ (refuses 0 3 7 leaving nothing_induced)
    ∷ induced_of 2 idle (0 ∷ 0 ∷ []) (0 ∷ 0 ∷ []) (0 ∷ 1000000001 ∷ []) (1600000000001 ∷ 0 ∷ []) ⊳ (refuses 0 3 9 leaving nothing_induced)
    ∷ induced_of 2 idle (0 ∷ 0 ∷ []) (0 ∷ 0 ∷ []) (0 ∷ 1000000000 ∷ []) (1600000000000 ∷ 1 ∷ []) ⊳ (refuses 0 8 1 leaving nothing_induced)
    -- of several faults the first is told: 1 before 2, 2 before 3 and 7, 7 before 8, 8 before 9
    ∷ coefficients_of (table_by 0 (1 ∷ []) [] [] [] [] [] []) ⊳ (refuses 0 1 0 leaving ([] ∷ [] ∷ [] ∷ [] ∷ [] ∷ []))
    ∷ coefficients_of (table_by 1 (1000000001 ∷ []) [] (0 ∷ []) (0 ∷ []) (0 ∷ []) (0 ∷ []) (0 ∷ [])) ⊳ (refuses 0 2 0 leaving ((0 ∷ []) ∷ (0 ∷ []) ∷ (0 ∷ []) ∷ (0 ∷ []) ∷ (0 ∷ []) ∷ []))
    ∷ production_of 0 idle (0 ∷ []) 0 ⊳ (refuses 1 1 0 leaving ([] ∷ []))
    ∷ production_of 2 too_much (2000000001 ∷ []) 0 ⊳ (refuses 1 2 0 leaving leaves 0 0)
    ∷ production_of 2 too_much (2000000001 ∷ 0 ∷ []) 0 ⊳ (refuses 1 7 1 leaving leaves 0 0)
    ∷ production_of 2 d (2000000001 ∷ 0 ∷ []) 0 ⊳ (refuses 1 8 0 leaving leaves 0 0)
    ∷ implied_of 2 too_much (1600000000000 ∷ 1 ∷ []) ⊳ (refuses 0 7 1 leaving leaves 0 0)
    ∷ implied_of 2 d (0 ∷ 1600000000001 ∷ []) ⊳ (refuses 0 8 1 leaving leaves 0 0)
    ∷ inverse_of 2 too_much 0 ⊳ (refuses 1 7 1 leaving (idle ∷ (0 ∷ 0 ∷ []) ∷ (0 ∷ 0 ∷ []) ∷ []))
    ∷ induced_of 2 (1000001 ∷ []) (0 ∷ 0 ∷ []) (0 ∷ 0 ∷ []) (0 ∷ 0 ∷ []) (0 ∷ 0 ∷ []) ⊳ (refuses 0 2 0 leaving nothing_induced)
    ∷ []

-- Theorem, for the reader: every case above is answered as stated
pub worked_questions : map (λ (r : Row). r.given) question_rows ≡ map (λ (r : Row). r.stated) question_rows
unfolding question_rows coefficients_report production_report price_report implied_report induced_report inverse_report intermediate round rounds changes settling settled implied_demand induced_value_added induced_imports unit inverse inverse_rounds dispersion
worked_questions = refl

-- Theorem, for the reader: a sector's row of a sheet is that stretch of it; and none where the sector, the length or n is wrong
pub worked_slices :
    ◌≡◌ {A = List (List ℕ)}
    (row_slice 2 d 0 ∷ row_slice 2 d 1 ∷ row_slice 2 d 2 ∷ row_slice 2 (75000 ∷ d) 0 ∷ row_slice 0 [] 0 ∷ row_slice 41 (replicate 1681 1) 0 ∷ [])
    ((75000 ∷ 150000 ∷ []) ∷ (240000 ∷ 240000 ∷ []) ∷ [] ∷ [] ∷ [] ∷ [] ∷ [])
unfolding row_slice
worked_slices = refl

-- Theorem, for the reader: document 02, ticket 5, "a budget of 1,400", of productions, and of prices and inverse columns
pub worked_budgets : (production_budget ≡ 1400) × (price_budget ≡ 1400)
worked_budgets = (refl, refl)

-- ---- document 02, ticket 3: the adjustment item
-- two sectors whose sheets are all 0 but for f: they sell abroad what they make, of value added alone
abbrev exporting : (exports adjustment value_added production : List ℕ) → Table
exporting e g v x = table_by 2 idle (0 ∷ 0 ∷ []) e (0 ∷ 0 ∷ []) v x g

abbrev no_sheets : List (List ℕ)
no_sheets = (0 ∷ 0 ∷ 0 ∷ 0 ∷ []) ∷ (0 ∷ 0 ∷ []) ∷ (0 ∷ 0 ∷ []) ∷ (0 ∷ 0 ∷ 0 ∷ 0 ∷ []) ∷ (0 ∷ 0 ∷ []) ∷ []

unfoldable pub adjusted_rows : List Row
adjusted_rows =
    -- the worked table with an adjustment item of 50 and 90, and imports as much larger. Cut by the import share f(0) would be 635, in the divisor
    -- m(0) 285,714
    coefficients_of (worked_with (300 ∷ 450 ∷ []) (50 ∷ 90 ∷ []))
    ⊳ (accepts [] leaving ((100000 ∷ 200000 ∷ 300000 ∷ 300000 ∷ []) ∷ (600000 ∷ 500000 ∷ []) ∷ (300000 ∷ 250000 ∷ []) ∷ (70000 ∷ 140000 ∷ 225000 ∷ 225000 ∷ []) ∷ (650 ∷ 1325 ∷ []) ∷ []))
    -- E plus G of exactly 1,000,000,000; one more is refused by 16 in its sector, also where 4 would refuse
    ∷ coefficients_of (exporting (0 ∷ 999999999 ∷ []) (0 ∷ 1 ∷ []) (0 ∷ 1000000000 ∷ []) (0 ∷ 1000000000 ∷ []))
    ⊳ (accepts [] leaving ((0 ∷ 0 ∷ 0 ∷ 0 ∷ []) ∷ (0 ∷ 1000000 ∷ []) ∷ (0 ∷ 0 ∷ []) ∷ (0 ∷ 0 ∷ 0 ∷ 0 ∷ []) ∷ (0 ∷ 1000000000 ∷ []) ∷ []))
    ∷ coefficients_of (exporting (0 ∷ 1000000000 ∷ []) (0 ∷ 1 ∷ []) (1 ∷ 0 ∷ []) (0 ∷ 0 ∷ [])) ⊳ (refuses 0 16 1 leaving no_sheets)
    -- 3 reads G after X, and comes before 16
    ∷ coefficients_of (exporting (0 ∷ 1000000000 ∷ []) (1000000001 ∷ 1 ∷ []) (0 ∷ 0 ∷ []) (0 ∷ 0 ∷ [])) ⊳ (refuses 0 3 14 leaving no_sheets)
    -- it is in the row balance
    ∷ coefficients_of (exporting (0 ∷ 0 ∷ []) (0 ∷ 1 ∷ []) (0 ∷ 0 ∷ []) (0 ∷ 0 ∷ [])) ⊳ (refuses 0 5 1 leaving no_sheets)
    ∷ []

-- Theorem, for the reader: every case above is answered as stated
pub worked_adjustment : map (λ (r : Row). r.given) adjusted_rows ≡ map (λ (r : Row). r.stated) adjusted_rows
unfolding adjusted_rows coefficients_report input_coefficients value_added_coefficients import_coefficients domestic_coefficients absorption input_coefficient value_added_coefficient import_coefficient domestic_coefficient domestic_demand
worked_adjustment = refl

-- ---- the demand for domestic goods of a final demand
abbrev demand_of : (n : ℕ) (m F E G : List ℕ) → Result
demand_of n m F E G =
    let r = domestic_demand_report n m F E G (n ∷ []) in
    r leaving (output r n (domestic_demand n m F E G) ∷ [])

-- with the worked table's import shares and exports, and an adjustment item of 0
abbrev worked_demand : List ℕ → Result
worked_demand F = demand_of 2 (250000 ∷ 200000 ∷ []) F (250 ∷ 560 ∷ []) (0 ∷ 0 ∷ [])

-- an amount over the limit, a share over one, and the largest of each
abbrev too_large : List ℕ
too_large = 0 ∷ 1000000001 ∷ []

abbrev over_one : List ℕ
over_one = 0 ∷ 1000001 ∷ []

abbrev large : List ℕ
large = 0 ∷ 1000000000 ∷ []

unfoldable pub demand_rows : List Row
demand_rows =
    -- of the table's own final demand its f; of 600 in place of 500 in sector 0, of which a quarter is imported
    worked_demand (500 ∷ 900 ∷ []) ⊳ (accepts [] leaving (f ∷ []))
    ∷ worked_demand (600 ∷ 900 ∷ []) ⊳ (accepts [] leaving leaves 700 1280)
    -- with the adjustment item of the worked table's neighbour
    ∷ demand_of 2 (300000 ∷ 250000 ∷ []) (500 ∷ 900 ∷ []) (250 ∷ 560 ∷ []) (50 ∷ 90 ∷ []) ⊳ (accepts [] leaving leaves 650 1325)
    -- rounded down: two thirds of 1, and of 2; exports and the adjustment item whole where everything is imported
    ∷ demand_of 2 (333333 ∷ 333333 ∷ []) (1 ∷ 2 ∷ []) (0 ∷ 0 ∷ []) (0 ∷ 0 ∷ []) ⊳ (accepts [] leaving leaves 0 1)
    ∷ demand_of 2 (1000000 ∷ 1000000 ∷ []) (7 ∷ 7 ∷ []) (2 ∷ 0 ∷ []) (0 ∷ 3 ∷ []) ⊳ (accepts [] leaving leaves 2 3)
    -- the largest: F and E, and F with E and G of 1,000,000,000 together. One more of G is refused by 16 in its sector
    ∷ demand_of 2 (0 ∷ 0 ∷ []) large large (0 ∷ 0 ∷ []) ⊳ (accepts [] leaving leaves 0 2000000000)
    ∷ demand_of 2 (0 ∷ 0 ∷ []) large (0 ∷ 999999999 ∷ []) (0 ∷ 1 ∷ []) ⊳ (accepts [] leaving leaves 0 2000000000)
    ∷ demand_of 2 (0 ∷ 0 ∷ []) large large (0 ∷ 1 ∷ []) ⊳ (refuses 0 16 1 leaving leaves 0 0)
    -- 3 through m, F, E and G, and before 16
    ∷ demand_of 2 over_one too_large too_large too_large ⊳ (refuses 0 3 1 leaving leaves 0 0)
    ∷ demand_of 2 (0 ∷ 1000000 ∷ []) too_large too_large too_large ⊳ (refuses 0 3 3 leaving leaves 0 0)
    ∷ demand_of 2 (0 ∷ 0 ∷ []) large too_large too_large ⊳ (refuses 0 3 5 leaving leaves 0 0)
    ∷ demand_of 2 (0 ∷ 0 ∷ []) large large too_large ⊳ (refuses 0 3 7 leaving leaves 0 0)
    -- 1 before 2, and 2, of each slice, before 3
    ∷ demand_of 0 (0 ∷ []) [] [] [] ⊳ (refuses 0 1 0 leaving ([] ∷ []))
    ∷ demand_of 2 (1000001 ∷ []) large large large ⊳ (refuses 0 2 0 leaving leaves 0 0)
    ∷ demand_of 2 over_one (0 ∷ []) large large ⊳ (refuses 0 2 0 leaving leaves 0 0)
    ∷ demand_of 2 over_one large (0 ∷ []) large ⊳ (refuses 0 2 0 leaving leaves 0 0)
    ∷ demand_of 2 over_one large large (0 ∷ []) ⊳ (refuses 0 2 0 leaving leaves 0 0)
    ∷ []

-- Theorem, for the reader: every case above is answered as stated
pub worked_demand_lem : map (λ (r : Row). r.given) demand_rows ≡ map (λ (r : Row). r.stated) demand_rows
unfolding demand_rows domestic_demand_report domestic_demand
worked_demand_lem = refl

-- ---- document 02, ticket 6: a, v and m to the nearest millionth
-- one sector without an adjustment item, by its x, F, E, M, V and X
abbrev single : (x f e m v p : ℕ) → Table
single x f e m v p = table_by 1 (x ∷ []) (f ∷ []) (e ∷ []) (m ∷ []) (v ∷ []) (p ∷ []) (0 ∷ [])

abbrev sheets_of : (a v m d f : ℕ) → List (List ℕ)
sheets_of a v m d f = (a ∷ []) ∷ (v ∷ []) ∷ (m ∷ []) ∷ (d ∷ []) ∷ (f ∷ []) ∷ []

unfoldable pub nearest_rows : List Row
nearest_rows =
    -- 2 in 3 and 1 in 3. d and f are still rounded down: to the nearest they would be 444,445 and 2
    coefficients_of (single 2 1 1 1 1 3) ⊳ (accepts [] leaving sheets_of 666667 333333 333333 444444 1)
    -- halves: a and m are 1 in 2,000,000, v is the rest. The complement of m is 999,999; rounded by itself it would be one, and f 2,000,000
    ∷ coefficients_of (single 1 1999999 1 1 1999999 2000000) ⊳ (accepts [] leaving sheets_of 1 1000000 1 0 1999998)
    -- question 7: a was 950,000 when it was rounded down, and is 950,001
    ∷ coefficients_of (single 88161 4640 0 0 4640 92801) ⊳ (refuses 0 7 0 leaving sheets_of 0 0 0 0 0)
    -- and here m was 104 and d 950,001
    ∷ coefficients_of (single 9501000 500047 0 1047 499000 10000000) ⊳ (accepts [] leaving sheets_of 950100 49900 105 950000 499994)
    ∷ []

-- Theorem, for the reader: every case above is answered as stated
pub worked_nearest : map (λ (r : Row). r.given) nearest_rows ≡ map (λ (r : Row). r.stated) nearest_rows
unfolding nearest_rows coefficients_report input_coefficients value_added_coefficients import_coefficients domestic_coefficients absorption input_coefficient value_added_coefficient import_coefficient domestic_coefficient domestic_demand
worked_nearest = refl

-- Theorem, for the reader: "a share of 2 in 3 is now 666,667"; 1 in 2,000,000, 1 in 2,000,001, and a share in nothing
pub worked_shares : ◌≡◌ {A = List ℕ} (share 2 3 ∷ share 1 2000000 ∷ share 1 2000001 ∷ share 5 0 ∷ []) (666667 ∷ 1 ∷ 0 ∷ 0 ∷ [])
worked_shares = refl

-- ---- document 02, ticket 4: what a scheme adds
abbrev no_rise : List (List ℕ)
no_rise = (0 ∷ 0 ∷ []) ∷ []

-- a sheet on which the lower of two demands takes more rounds
abbrev uneven : List ℕ
uneven = 259750 ∷ 398963 ∷ 235662 ∷ 247592 ∷ []

unfoldable pub impact_rows : List Row
impact_rows =
    -- 10 more for sector 0, at the least budget; one round less is enough for the first demand alone
    impact_of 2 d f (635 ∷ 1280 ∷ []) 10 ⊳ (accepts (10 ∷ []) leaving ((12 ∷ 4 ∷ []) ∷ []))
    ∷ impact_of 2 d f (635 ∷ 1280 ∷ []) 9 ⊳ (refuses 1 9 0 leaving no_rise)
    -- 100 more of final demand for sector 0, of which 75 are for domestic goods
    ∷ impact_of 2 d f (700 ∷ 1280 ∷ []) production_budget ⊳ (accepts (9 ∷ []) leaving ((86 ∷ 27 ∷ []) ∷ []))
    -- equal demands are accepted, and nothing rises; a budget of 0 is never enough
    ∷ impact_of 2 d f f 4294967295 ⊳ (accepts (9 ∷ []) leaving no_rise)
    ∷ impact_of 2 d (0 ∷ 0 ∷ []) (0 ∷ 0 ∷ []) 0 ⊳ (refuses 1 9 0 leaving no_rise)
    -- the lower demand takes more rounds, and counts
    ∷ production_of 2 uneven (41 ∷ 24 ∷ []) production_budget ⊳ (accepts (9 ∷ []) leaving ((86 ∷ 58 ∷ []) ∷ []))
    ∷ production_of 2 uneven (42 ∷ 24 ∷ []) production_budget ⊳ (accepts (8 ∷ []) leaving ((87 ∷ 58 ∷ []) ∷ []))
    ∷ impact_of 2 uneven (41 ∷ 24 ∷ []) (42 ∷ 24 ∷ []) production_budget ⊳ (accepts (9 ∷ []) leaving ((1 ∷ 0 ∷ []) ∷ []))
    -- 17 at the first sector that falls, also where no round is allowed
    ∷ impact_of 2 d f (626 ∷ 1279 ∷ []) 0 ⊳ (refuses 1 17 1 leaving no_rise)
    -- 8 of the first demand, then of the second, then 17; the place is the sector for both
    ∷ impact_of 2 d (0 ∷ 2000000001 ∷ []) (2000000001 ∷ 0 ∷ []) 9 ⊳ (refuses 1 8 1 leaving no_rise)
    ∷ impact_of 2 d f (624 ∷ 2000000001 ∷ []) 9 ⊳ (refuses 1 8 1 leaving no_rise)
    -- 7 before both; 2 of the second demand's length too, before 7
    ∷ impact_of 2 too_much (0 ∷ 2000000001 ∷ []) (0 ∷ 0 ∷ []) 9 ⊳ (refuses 1 7 1 leaving no_rise)
    ∷ impact_of 2 too_much f (626 ∷ []) 9 ⊳ (refuses 1 2 0 leaving no_rise)
    ∷ impact_of 2 d (625 ∷ []) f 9 ⊳ (refuses 1 2 0 leaving no_rise)
    ∷ []

-- Theorem, for the reader: every case above is answered as stated
pub worked_impact : map (λ (r : Row). r.given) impact_rows ≡ map (λ (r : Row). r.stated) impact_rows
unfolding impact_rows impact_report production_report intermediate round rounds changes settling settled impact impact_rounds
worked_impact = refl

-- ---- document 02, ticket 7: merging sectors
-- a table merged by groups: x and its columns, then the sizes
abbrev merged_of : Table → List ℕ → Result
merged_of t groups =
    let g = length groups in
    let r = aggregate_report t groups (g * g ∷ []) (g ∷ g ∷ g ∷ g ∷ g ∷ g ∷ g ∷ []) in
    r leaving
    (output r (g * g) (merged_table t groups).flows
    ∷ map (output r g) (merged_table t groups).columns
    ++ (output r g (group_sizes t.sectors groups) ∷ []))

-- three sectors with an adjustment item: F, E, M, V, X and G
abbrev three_sectors : Table
three_sectors =
    table_by 3 (10 ∷ 20 ∷ 30 ∷ 40 ∷ 50 ∷ 60 ∷ 70 ∷ 80 ∷ 90 ∷ [])
    (100 ∷ 200 ∷ 300 ∷ []) (95 ∷ 7 ∷ 11 ∷ []) (45 ∷ 60 ∷ 170 ∷ []) (100 ∷ 150 ∷ 205 ∷ []) (220 ∷ 300 ∷ 385 ∷ []) (10 ∷ 3 ∷ 4 ∷ [])

-- what a refused call leaves in slices for g sectors
abbrev nothing : ℕ → List (List ℕ)
nothing g = tabulate 8 (λ c. replicate (cond (eqb c 0) (g * g) g) 0)

-- two sectors without flows, that make 600,000,000 and p for final demand
abbrev for_demand : ℕ → Table
for_demand p =
    let made : List ℕ = 600000000 ∷ p ∷ [] in
    let none : List ℕ = 0 ∷ 0 ∷ [] in
    table_by 2 idle made none none made made none

unfoldable pub merged_rows : List Row
merged_rows =
    -- sectors 0 and 2 become sector 0, sector 1 becomes sector 1
    merged_of three_sectors (5 ∷ 2 ∷ [])
    ⊳ (accepts [] leaving ((200 ∷ 100 ∷ 100 ∷ 50 ∷ []) ∷ (400 ∷ 200 ∷ []) ∷ (106 ∷ 7 ∷ []) ∷ (215 ∷ 60 ∷ []) ∷ (305 ∷ 150 ∷ []) ∷ (605 ∷ 300 ∷ []) ∷ (14 ∷ 3 ∷ []) ∷ (2 ∷ 1 ∷ []) ∷ []))
    -- every group a single sector, in order and in the other order; all in one group
    ∷ merged_of three_sectors (1 ∷ 2 ∷ 4 ∷ []) ⊳ (accepts [] leaving (three_sectors.flows ∷ three_sectors.columns ++ ((1 ∷ 1 ∷ 1 ∷ []) ∷ [])))
    ∷ merged_of three_sectors (4 ∷ 2 ∷ 1 ∷ [])
    ⊳ (accepts [] leaving ((90 ∷ 80 ∷ 70 ∷ 60 ∷ 50 ∷ 40 ∷ 30 ∷ 20 ∷ 10 ∷ []) ∷ (300 ∷ 200 ∷ 100 ∷ []) ∷ (11 ∷ 7 ∷ 95 ∷ []) ∷ (170 ∷ 60 ∷ 45 ∷ []) ∷ (205 ∷ 150 ∷ 100 ∷ []) ∷ (385 ∷ 300 ∷ 220 ∷ []) ∷ (4 ∷ 3 ∷ 10 ∷ []) ∷ (1 ∷ 1 ∷ 1 ∷ []) ∷ []))
    ∷ merged_of three_sectors (7 ∷ [])
    ⊳ (accepts [] leaving ((450 ∷ []) ∷ (600 ∷ []) ∷ (113 ∷ []) ∷ (275 ∷ []) ∷ (455 ∷ []) ∷ (905 ∷ []) ∷ (17 ∷ []) ∷ (3 ∷ []) ∷ []))
    -- 2: no group, and more groups than sectors
    ∷ merged_of three_sectors [] ⊳ (refuses 0 2 0 leaving nothing 0)
    ∷ merged_of three_sectors (1 ∷ 2 ∷ 4 ∷ 0 ∷ []) ⊳ (refuses 0 2 0 leaving nothing 4)
    -- 18: sector 2 in no group, sector 1 in two; an empty group; a bit at 3, and at 63
    ∷ merged_of three_sectors (1 ∷ 2 ∷ []) ⊳ (refuses 0 18 0 leaving nothing 2)
    ∷ merged_of three_sectors (3 ∷ 6 ∷ []) ⊳ (refuses 0 18 0 leaving nothing 2)
    ∷ merged_of three_sectors (7 ∷ 0 ∷ []) ⊳ (refuses 0 18 0 leaving nothing 2)
    ∷ merged_of three_sectors (5 ∷ 10 ∷ []) ⊳ (refuses 0 18 0 leaving nothing 2)
    ∷ merged_of three_sectors (9223372036854775815 ∷ []) ⊳ (refuses 0 18 0 leaving nothing 1)
    -- 19: a merged amount of exactly 1,000,000,000, and of one more; 18 comes before it
    ∷ merged_of (for_demand 400000000) (3 ∷ []) ⊳ (accepts [] leaving ((0 ∷ []) ∷ (1000000000 ∷ []) ∷ (0 ∷ []) ∷ (0 ∷ []) ∷ (1000000000 ∷ []) ∷ (1000000000 ∷ []) ∷ (0 ∷ []) ∷ (2 ∷ []) ∷ []))
    ∷ merged_of (for_demand 400000001) (3 ∷ []) ⊳ (refuses 0 19 0 leaving nothing 1)
    ∷ merged_of (for_demand 400000001) (7 ∷ []) ⊳ (refuses 0 18 0 leaving nothing 1)
    -- 6 comes before 18: a sector that imports more than is needed, and an empty group
    ∷ merged_of (single 0 0 10 5 5 5) (0 ∷ []) ⊳ (refuses 0 6 0 leaving nothing 1)
    -- of several faults the first is told: 1 before 2, 2 before 3, 3 before 16, 16 before 4, 4 before 5, 5 before 6
    ∷ merged_of (table_by 41 [] [] [] [] [] [] []) (1 ∷ []) ⊳ (refuses 0 1 0 leaving nothing 1)
    ∷ merged_of (single 1000000001 0 0 0 0 0) [] ⊳ (refuses 0 2 0 leaving nothing 0)
    ∷ merged_of (exporting (0 ∷ 1000000001 ∷ []) (0 ∷ 1 ∷ []) (1 ∷ 0 ∷ []) (0 ∷ 0 ∷ [])) (3 ∷ []) ⊳ (refuses 0 3 7 leaving nothing 1)
    ∷ merged_of (exporting (0 ∷ 1000000000 ∷ []) (0 ∷ 1 ∷ []) (1 ∷ 0 ∷ []) (0 ∷ 0 ∷ [])) (3 ∷ []) ⊳ (refuses 0 16 1 leaving nothing 1)
    ∷ merged_of (single 1 0 0 5 0 0) (1 ∷ []) ⊳ (refuses 0 4 0 leaving nothing 1)
    ∷ merged_of (single 0 0 0 5 0 0) (1 ∷ []) ⊳ (refuses 0 5 0 leaving nothing 1)
    ∷ []

-- Theorem, for the reader: every case above is answered as stated
pub worked_merging : map (λ (r : Row). r.given) merged_rows ≡ map (λ (r : Row). r.stated) merged_rows
unfolding merged_rows aggregate_report group_total group_sizes absorption
worked_merging = refl

-- ---- document 02, ticket 8: productions that leave a shortage
unfoldable pub shortage_rows : List Row
shortage_rows =
    -- what industry takes is rounded down before it is taken off, of a sector that is short too: 150.15 and 240.24. A difference rounded down would
    -- be -151
    implied_of 2 d (0 ∷ 1001 ∷ []) ⊳ (accepts [] leaving_signed ((minus 150 ∷ pos 761 ∷ []) ∷ []))
    -- of both products together, 0.975 and 150.15: rounded by themselves they would leave -137
    ∷ implied_of 2 d (13 ∷ 1001 ∷ []) ⊳ (accepts [] leaving_signed ((minus 138 ∷ pos 758 ∷ []) ∷ []))
    -- exactly nothing is left, one unit is lacking; the second sector is short
    ∷ implied_of 2 d (162 ∷ 1000 ∷ []) ⊳ (accepts [] leaving leaves 0 722)
    ∷ implied_of 2 d (161 ∷ 1000 ∷ []) ⊳ (accepts [] leaving_signed ((minus 1 ∷ pos 722 ∷ []) ∷ []))
    ∷ implied_of 2 d (1000 ∷ 0 ∷ []) ⊳ (accepts [] leaving_signed ((pos 925 ∷ minus 240 ∷ []) ∷ []))
    -- the largest shortage
    ∷ implied_of 2 (0 ∷ 950000 ∷ 0 ∷ 0 ∷ []) (0 ∷ 1600000000000 ∷ []) ⊳ (accepts [] leaving_signed ((minus 1520000000000 ∷ pos 1600000000000 ∷ []) ∷ []))
    -- 2 of the production's length too, before 7
    ∷ implied_of 2 too_much (0 ∷ []) ⊳ (refuses 0 2 0 leaving leaves 0 0)
    -- document 01's call: P4 to P6; 10 where a unit is lacking and not where nothing is left, at the first sector that is short, after 8
    ∷ unsigned_of 2 d (999 ∷ 1999 ∷ []) ⊳ (accepts [] leaving (f ∷ []))
    ∷ unsigned_of 2 d (1000 ∷ 2000 ∷ []) ⊳ (accepts [] leaving (f ∷ []))
    ∷ unsigned_of 2 d (0 ∷ 1000 ∷ []) ⊳ (refuses 0 10 0 leaving leaves 0 0)
    ∷ unsigned_of 2 d (162 ∷ 1000 ∷ []) ⊳ (accepts [] leaving leaves 0 722)
    ∷ unsigned_of 2 d (161 ∷ 1000 ∷ []) ⊳ (refuses 0 10 0 leaving leaves 0 0)
    ∷ unsigned_of 2 d (1000 ∷ 0 ∷ []) ⊳ (refuses 0 10 1 leaving leaves 0 0)
    ∷ unsigned_of 2 d (0 ∷ 1600000000001 ∷ []) ⊳ (refuses 0 8 1 leaving leaves 0 0)
    ∷ unsigned_of 2 too_much (0 ∷ []) ⊳ (refuses 0 2 0 leaving leaves 0 0)
    ∷ []

-- Theorem, for the reader: every case above is answered as stated
pub worked_shortages : map (λ (r : Row). r.given) shortage_rows ≡ map (λ (r : Row). r.stated) shortage_rows
unfolding shortage_rows implied_report unsigned_report intermediate implied_demand unsigned_demand
worked_shortages = refl

-- ---- document 02, ticket 9: sector order for storage
-- a table rearranged by a list: x and its columns, then the inverse list
abbrev permuted_of : Table → List ℕ → Result
permuted_of t order =
    let n = t.sectors in
    let r = permute_report t order (n * n ∷ []) (n ∷ n ∷ n ∷ n ∷ n ∷ n ∷ n ∷ []) in
    r leaving
    (output r (n * n) (permuted_table t order).flows
    ∷ map (output r n) (permuted_table t order).columns
    ++ (output r n (inverse_list n order) ∷ []))

-- three sectors, sector 1 first, then 2, then 0
abbrev three_permuted : Table
three_permuted =
    table_by 3 (50 ∷ 60 ∷ 40 ∷ 80 ∷ 90 ∷ 70 ∷ 20 ∷ 30 ∷ 10 ∷ [])
    (200 ∷ 300 ∷ 100 ∷ []) (7 ∷ 11 ∷ 95 ∷ []) (60 ∷ 170 ∷ 45 ∷ []) (150 ∷ 205 ∷ 100 ∷ []) (300 ∷ 385 ∷ 220 ∷ []) (3 ∷ 4 ∷ 10 ∷ [])

-- the domestic coefficients of the three sectors before
abbrev three_domestic : List ℕ
three_domestic = 32670 ∷ 47916 ∷ 56006 ∷ 150649 ∷ 138095 ∷ 129127 ∷ 218013 ∷ 182716 ∷ 160172 ∷ []

-- three sectors whose amounts balance nowhere, with E plus G over the limit and imports over all need; x(0,0) and G(2) as given
abbrev unbalanced : ℕ → ℕ → Table
unbalanced flow adjustment =
    table_by 3 (flow ∷ 2 ∷ 3 ∷ 4 ∷ 5 ∷ 6 ∷ 7 ∷ 8 ∷ 9 ∷ []) (0 ∷ 0 ∷ 0 ∷ []) (0 ∷ 0 ∷ 1000000000 ∷ []) (0 ∷ 999 ∷ 0 ∷ []) (0 ∷ 0 ∷ 0 ∷ []) (0 ∷ 0 ∷ 1 ∷ []) (0 ∷ 0 ∷ adjustment ∷ [])

unfoldable pub permuted_rows : List Row
permuted_rows =
    -- the worked table by 1 0, which is its own inverse
    permuted_of table (1 ∷ 0 ∷ [])
    ⊳ (accepts [] leaving ((600 ∷ 300 ∷ 400 ∷ 100 ∷ []) ∷ (900 ∷ 500 ∷ []) ∷ (560 ∷ 250 ∷ []) ∷ (360 ∷ 250 ∷ []) ∷ (1000 ∷ 600 ∷ []) ∷ (2000 ∷ 1000 ∷ []) ∷ (0 ∷ 0 ∷ []) ∷ (1 ∷ 0 ∷ []) ∷ []))
    -- a list of three that is not its own inverse, and back
    ∷ permuted_of three_sectors (1 ∷ 2 ∷ 0 ∷ []) ⊳ (accepts [] leaving (three_permuted.flows ∷ three_permuted.columns ++ ((2 ∷ 0 ∷ 1 ∷ []) ∷ [])))
    ∷ permuted_of three_permuted (2 ∷ 0 ∷ 1 ∷ []) ⊳ (accepts [] leaving (three_sectors.flows ∷ three_sectors.columns ++ ((1 ∷ 2 ∷ 0 ∷ []) ∷ [])))
    -- in order, nothing changes; nor does one sector
    ∷ permuted_of three_sectors (0 ∷ 1 ∷ 2 ∷ []) ⊳ (accepts [] leaving (three_sectors.flows ∷ three_sectors.columns ++ ((0 ∷ 1 ∷ 2 ∷ []) ∷ [])))
    ∷ permuted_of (single 1 2 3 4 5 6) (0 ∷ []) ⊳ (accepts [] leaving ((single 1 2 3 4 5 6).flows ∷ (single 1 2 3 4 5 6).columns ++ ((0 ∷ []) ∷ [])))
    ∷ []

-- Theorem, for the reader: every case above is answered as stated
pub worked_order : map (λ (r : Row). r.given) permuted_rows ≡ map (λ (r : Row). r.stated) permuted_rows
unfolding permuted_rows permute_report inverse_list
worked_order = refl

-- what is asked of a table and a list
unfoldable pub order_question_rows : List Row
order_question_rows =
    -- 4, 5, 6 and 16 are not asked
    permuted_of (unbalanced 1 1000000000) (2 ∷ 1 ∷ 0 ∷ [])
    ⊳ (accepts [] leaving ((9 ∷ 8 ∷ 7 ∷ 6 ∷ 5 ∷ 4 ∷ 3 ∷ 2 ∷ 1 ∷ []) ∷ (0 ∷ 0 ∷ 0 ∷ []) ∷ (1000000000 ∷ 0 ∷ 0 ∷ []) ∷ (0 ∷ 999 ∷ 0 ∷ []) ∷ (0 ∷ 0 ∷ 0 ∷ []) ∷ (1 ∷ 0 ∷ 0 ∷ []) ∷ (1000000000 ∷ 0 ∷ 0 ∷ []) ∷ (2 ∷ 1 ∷ 0 ∷ []) ∷ []))
    -- 20: an entry of n, and of 18,446,744,073,709,551,615; a repeat of the entry before, and of one further back: the later of the two is told
    ∷ permuted_of three_sectors (0 ∷ 3 ∷ 1 ∷ []) ⊳ (refuses 0 20 1 leaving nothing 3)
    ∷ permuted_of three_sectors (18446744073709551615 ∷ 0 ∷ 1 ∷ []) ⊳ (refuses 0 20 0 leaving nothing 3)
    ∷ permuted_of three_sectors (1 ∷ 1 ∷ 2 ∷ []) ⊳ (refuses 0 20 1 leaving nothing 3)
    ∷ permuted_of three_sectors (2 ∷ 0 ∷ 2 ∷ []) ⊳ (refuses 0 20 2 leaving nothing 3)
    -- of both faults the first in the list
    ∷ permuted_of three_sectors (3 ∷ 0 ∷ 0 ∷ []) ⊳ (refuses 0 20 0 leaving nothing 3)
    ∷ permuted_of three_sectors (0 ∷ 0 ∷ 3 ∷ []) ⊳ (refuses 0 20 1 leaving nothing 3)
    -- of several faults the first is told: 3 before 20, with its places through x, F, E, M, V, X and G; 2, of x, of G and of the list, before 3; 1 before 2
    ∷ permuted_of (unbalanced 1000000001 0) (3 ∷ 3 ∷ 3 ∷ []) ⊳ (refuses 0 3 0 leaving nothing 3)
    ∷ permuted_of (unbalanced 1 1000000001) (3 ∷ 3 ∷ 3 ∷ []) ⊳ (refuses 0 3 26 leaving nothing 3)
    ∷ permuted_of (table_by 1 [] (1000000001 ∷ []) (0 ∷ []) (0 ∷ []) (0 ∷ []) (0 ∷ []) (0 ∷ [])) (0 ∷ []) ⊳ (refuses 0 2 0 leaving nothing 1)
    ∷ permuted_of (table_by 1 (1000000001 ∷ []) (0 ∷ []) (0 ∷ []) (0 ∷ []) (0 ∷ []) (0 ∷ []) []) (0 ∷ []) ⊳ (refuses 0 2 0 leaving nothing 1)
    ∷ permuted_of (unbalanced 1000000001 0) (0 ∷ 1 ∷ []) ⊳ (refuses 0 2 0 leaving nothing 3)
    ∷ permuted_of (unbalanced 1000000001 0) (0 ∷ 1 ∷ 2 ∷ 3 ∷ []) ⊳ (refuses 0 2 0 leaving nothing 3)
    ∷ permuted_of (table_by 0 [] [] [] [] [] [] []) (0 ∷ []) ⊳ (refuses 0 1 0 leaving nothing 0)
    ∷ []

-- Theorem, for the reader: every case above is answered as stated
pub worked_order_questions : map (λ (r : Row). r.given) order_question_rows ≡ map (λ (r : Row). r.stated) order_question_rows
unfolding order_question_rows permute_report inverse_list
worked_order_questions = refl

-- the sheets of the three sectors before and after, and on them production in 8 rounds and prices in 10
unfoldable pub permuted_sheet_rows : List Row
permuted_sheet_rows =
    coefficients_of three_sectors
    ⊳ (accepts [] leaving ((45455 ∷ 66667 ∷ 77922 ∷ 181818 ∷ 166667 ∷ 155844 ∷ 318182 ∷ 266667 ∷ 233766 ∷ []) ∷ (454545 ∷ 500000 ∷ 532468 ∷ []) ∷ (281250 ∷ 171429 ∷ 314815 ∷ []) ∷ three_domestic ∷ (176 ∷ 175 ∷ 220 ∷ []) ∷ []))
    ∷ coefficients_of three_permuted
    ⊳ (accepts [] leaving ((166667 ∷ 155844 ∷ 181818 ∷ 266667 ∷ 233766 ∷ 318182 ∷ 66667 ∷ 77922 ∷ 45455 ∷ []) ∷ (500000 ∷ 532468 ∷ 454545 ∷ []) ∷ (171429 ∷ 314815 ∷ 281250 ∷ []) ∷ permuted_sheet 3 (1 ∷ 2 ∷ 0 ∷ []) three_domestic ∷ (175 ∷ 220 ∷ 176 ∷ []) ∷ []))
    ∷ production_of 3 three_domestic (176 ∷ 175 ∷ 220 ∷ []) 8 ⊳ (accepts (8 ∷ []) leaving ((218 ∷ 298 ∷ 383 ∷ []) ∷ []))
    ∷ production_of 3 (permuted_sheet 3 (1 ∷ 2 ∷ 0 ∷ []) three_domestic) (175 ∷ 220 ∷ 176 ∷ []) 8 ⊳ (accepts (8 ∷ []) leaving ((298 ∷ 383 ∷ 218 ∷ []) ∷ []))
    ∷ price_of 3 three_domestic (10000 ∷ 0 ∷ 500 ∷ []) 10 ⊳ (accepts (10 ∷ []) leaving ((10807 ∷ 909 ∷ 1455 ∷ []) ∷ []))
    ∷ price_of 3 (permuted_sheet 3 (1 ∷ 2 ∷ 0 ∷ []) three_domestic) (0 ∷ 500 ∷ 10000 ∷ []) 10 ⊳ (accepts (10 ∷ []) leaving ((909 ∷ 1455 ∷ 10807 ∷ []) ∷ []))
    ∷ []

-- Theorem, for the reader: every case above is answered as stated
pub worked_order_sheets : map (λ (r : Row). r.given) permuted_sheet_rows ≡ map (λ (r : Row). r.stated) permuted_sheet_rows
unfolding permuted_sheet_rows coefficients_report input_coefficients value_added_coefficients import_coefficients domestic_coefficients production_report price_report absorption input_coefficient value_added_coefficient import_coefficient domestic_coefficient domestic_demand intermediate round rounds changes settling settled
worked_order_sheets = refl

-- ---- question 2 of what is lent
-- calls with one length that is too large, of the last matrix or of the last column
abbrev wrong_lengths : List Report
wrong_lengths =
    coefficients_report table (4 ∷ 5 ∷ []) (2 ∷ 2 ∷ 2 ∷ []) ∷ coefficients_report table (4 ∷ 4 ∷ []) (2 ∷ 2 ∷ 3 ∷ [])
    ∷ aggregate_report three_sectors (5 ∷ 2 ∷ []) (9 ∷ []) (replicate 7 2) ∷ aggregate_report three_sectors (5 ∷ 2 ∷ []) (4 ∷ []) (replicate 6 2 ++ (3 ∷ []))
    ∷ permute_report three_sectors (1 ∷ 2 ∷ 0 ∷ []) (4 ∷ []) (replicate 7 3) ∷ permute_report three_sectors (1 ∷ 2 ∷ 0 ∷ []) (9 ∷ []) (replicate 6 3 ++ (4 ∷ []))
    ∷ domestic_demand_report 2 over_one large large large (3 ∷ [])
    ∷ implied_report 2 d f (3 ∷ [])
    ∷ induced_report 2 idle (0 ∷ 0 ∷ []) (0 ∷ 0 ∷ []) (0 ∷ 0 ∷ []) (0 ∷ 0 ∷ []) (2 ∷ 3 ∷ [])
    ∷ production_report 2 d f 9 (2 ∷ 3 ∷ [])
    ∷ price_report 2 d f 9 (2 ∷ 3 ∷ [])
    ∷ impact_report 2 d f f 9 (2 ∷ 3 ∷ [])
    ∷ inverse_report 2 d 9 (5 ∷ []) (2 ∷ 2 ∷ []) ∷ inverse_report 2 d 9 (4 ∷ []) (2 ∷ 3 ∷ [])
    ∷ []

-- Theorem, for the reader: each of them is refused by 2, with its count of rounds at 0 where it has one
pub worked_lengths : wrong_lengths ≡ replicate 9 (refuses 0 2 0) ++ replicate 5 (refuses 1 2 0)
unfolding coefficients_report aggregate_report permute_report domestic_demand_report implied_report induced_report production_report price_report impact_report inverse_report absorption input_coefficient import_coefficient domestic_coefficient domestic_coefficients group_total intermediate round rounds changes settling unit inverse_rounds impact_rounds
worked_lengths = refl
