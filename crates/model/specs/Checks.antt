-- Document 01, "Questions a call asks, in this order". A check is a test at each of its places.
use Rattle.std.specs.Prelude.{Bool, true, false, ◌&&◌, cond, List, [], ◌∷◌, map, ℕ, suc, ◌+◌, ◌*◌, eqb, leb, ltb, pos, length, replicate, Result, Ok, Err}
use Rattle.model.specs.Numbers.{Cells, Sheet, SignedCells, one, sum, first, all, cell, at, column_sum}
use Rattle.model.specs.Table.{Table, few_sectors, flow, need, exports, imports, value_added, production, adjustment, adjusted_exports}
use Rattle.model.specs.Rounds.{settling, unit}
use Rattle.model.specs.Questions.{number}
use Rattle.model.specs.declared.Refusal.{Refusal}
use Rattle.model.specs.declared.TableRead.{TableRead}

-- An answer in the paper's numbers: its number, its place, and the other numbers of its answer, which are its counts: none, the rounds, the
-- sectors and the named cells of a file, or the bytes of a file or of a page that was written
pub record Report : Type 0 where
  pub accepted : Bool
  pub number : ℕ
  pub place : ℕ
  pub counts : List ℕ

-- acceptance has number 0 and place 0
abbrev pub accepts : (counts : List ℕ) → Report
accepts ks = record { accepted = true; number = 0; place = 0; counts = ks }

-- a refusal of a call with so many counts has "0 for every other number of its answer"
abbrev pub refuses : (counts number place : ℕ) → Report
refuses k q p = record { accepted = false; number = q; place = p; counts = replicate k 0 }

-- what a call's answer says: its counts where it was accepted, and else its question's number and its place
abbrev pub report_of : {A : Type 0} (counts : ℕ) (told : A → List ℕ) → Result A Refusal → Report
report_of k told (Ok a) = accepts (told a)
report_of k told (Err e) = refuses k (number e.question) e.place

-- of a call without a count
abbrev pub report : Result Unit Refusal → Report
report = report_of 0 (λ _. [])

-- of one that works in rounds, with how many it took
abbrev pub report_rounds : Result ℕ Refusal → Report
report_rounds = report_of 1 (λ k. k ∷ [])

-- of the reader of a table file, with n and how many cells were named
abbrev pub report_read : Result TableRead Refusal → Report
report_read = report_of 2 (λ t. t.sectors ∷ t.named ∷ [])

-- of the writer of a table file, and of the call that writes a page, with how many bytes it has
abbrev pub report_written : Result ℕ Refusal → Report
report_written = report_rounds

abbrev pub report_page : Result ℕ Refusal → Report
report_page = report_rounds

-- and an answer that was told as numbers, as it is to C: it is accepted where its number is 0
abbrev pub report_told : (number place : ℕ) (counts : List ℕ) → Report
report_told q p ks = record { accepted = eqb q 0; number = q; place = p; counts = ks }

-- the count of rounds of a call that has one, the sectors that a reader tells, and the bytes that a writer tells
abbrev pub rounds_of : Report → ℕ
rounds_of r = cell r.counts 0

abbrev pub sectors_of : Report → ℕ
sectors_of r = cell r.counts 0

abbrev pub bytes_of : Report → ℕ
bytes_of r = cell r.counts 0

-- A check: its number, the place of its first cell, how many cells it has, and a test of each
pub record Check : Type 0 where
  pub number : ℕ
  pub offset : ℕ
  pub places : ℕ
  pub passes : ℕ → Bool

-- The first check that fails gives its number and its first failing place; where none fails the call is accepted, with these counts
abbrev pub verdict : List Check → (counts : List ℕ) → Report
verdict [] ks = accepts ks
verdict (q ∷ qs) ks =
    let cell = first q.places q.passes in
    let later = verdict qs ks in
    cond (ltb cell q.places) (refuses (length ks) q.number (q.offset + cell)) later

-- What a call leaves in an output slice: the result, or 0 in every cell, whatever the slice's length. `none` is the 0 of its cells
abbrev pub output_of : {A : Type 0} (none : A) → Report → ℕ → List A → List A
output_of none r len result = cond r.accepted result (replicate len none)

-- of numbers
abbrev pub output : Report → ℕ → Cells → Cells
output = output_of 0

-- and of signed numbers (document 02, ticket 8)
abbrev pub signed_output : Report → ℕ → SignedCells → SignedCells
signed_output = output_of (pos 0)

-- check k at each of n places, and one whose place is always 0
abbrev pub each : ℕ → ℕ → (ℕ → Bool) → Check
each k n p = record { number = k; offset = 0; places = n; passes = p }

abbrev pub single : ℕ → Bool → Check
single k b = each k 1 (λ _. b)

-- check k: every cell of the slice is at most the limit. Cell i of the slice is at place offset + i
abbrev pub within : ℕ → Cells → ℕ → Bool
within limit xs i = leb (cell xs i) limit

abbrev pub bounded : (k offset limit : ℕ) (s : Cells) → Check
bounded k offset limit s = record { number = k; offset = offset; places = length s; passes = within limit s }

-- 1. n is from 1 to 40
abbrev pub size : ℕ → Check
size n = single 1 (few_sectors n)

-- 2. every lent slice has its exact length: n × n for these matrices, n for these columns
abbrev pub lengths : (n : ℕ) (matrices columns : List ℕ) → Check
lengths n matrices columns = single 2 (all (eqb (n * n)) matrices && all (eqb n) columns)

-- 3. every amount is within 1,000,000,000, and every share within one
abbrev pub amount_limit : ℕ
amount_limit = 1_000_000_000

-- "its cells counted on through the slices in that order": the places of each check follow those of the check before it
abbrev pub counted_on : (place : ℕ) → List Check → List Check
counted_on place [] = []
counted_on place (q ∷ qs) =
    record { number = q.number; offset = place; places = q.places; passes = q.passes } ∷ counted_on (place + q.places) qs

-- of a table the amounts of x, then of each column
abbrev pub table_amounts : Table → List Check
table_amounts t = counted_on 0 (map (bounded 3 0 amount_limit) (t.flows ∷ t.columns))

-- for induced amounts the shares of a, m, v, then the amounts of F
abbrev pub induced_amounts : (a m v F : Cells) → List Check
induced_amounts a m v F = counted_on 0 (bounded 3 0 one a ∷ bounded 3 0 one m ∷ bounded 3 0 one v ∷ bounded 3 0 amount_limit F ∷ [])

-- for the demand for domestic goods the shares of m, then the amounts of F, E and G
abbrev pub demand_amounts : (m F E G : Cells) → List Check
demand_amounts m F E G = counted_on 0 (bounded 3 0 one m ∷ map (bounded 3 0 amount_limit) (F ∷ E ∷ G ∷ []))

-- 16. document 02, ticket 3, asked after 3: E plus G is within 1,000,000,000 in every sector
abbrev pub exports_within : (n : ℕ) (E G : Cells) → Check
exports_within n E G = each 16 n (λ i. leb (adjusted_exports E G i) amount_limit)

module _ (t : Table) where
  -- 4. every column balances
  abbrev pub column_balances : Check
  column_balances =
      each 4 t.sectors
      (λ j. eqb (column_sum t.sectors (flow t) j + cell (value_added t) j) (cell (production t) j))

  -- 5. every row balances; the adjustment item "joins the row balance beside E"
  abbrev pub row_balances : Check
  row_balances =
      each 5 t.sectors
      (λ i. eqb (need t i + adjusted_exports (exports t) (adjustment t) i) (cell (production t) i + cell (imports t) i))

  -- 6. a sector's imports are at most its domestic need
  abbrev pub imports_covered : Check
  imports_covered = each 6 t.sectors (λ i. leb (cell (imports t) i) (need t i))

  -- what sheets from a table ask of its amounts together, in order: 16, 4, 5 and 6
  abbrev pub balance_checks : List Check
  balance_checks = exports_within t.sectors (exports t) (adjustment t) ∷ column_balances ∷ row_balances ∷ imports_covered ∷ []

-- 7. every column sum of domestic coefficients is at most 950,000
abbrev pub column_limit : ℕ
column_limit = 950_000

abbrev pub column_sums : ℕ → Sheet → Check
column_sums n c = each 7 n (λ j. leb (column_sum n c j) column_limit)

-- 8. every demand for domestic goods is at most 2,000,000,000, and every direct rise at most 1,000,000,000
abbrev pub demand_limit : ℕ
demand_limit = 2_000_000_000

abbrev pub rise_limit : ℕ
rise_limit = 1_000_000_000

-- and the total of a given production is at most 1,600,000,000,000: the place is the first running total above it
abbrev pub production_limit : ℕ
production_limit = 1_600_000_000_000

abbrev pub production_total : ℕ → Cells → Check
production_total n y = each 8 n (λ i. leb (sum (suc i) (cell y)) production_limit)

-- 9. the rounds settle within the budget; of the inverse sheet those of every column
abbrev pub settles : (n : ℕ) (c : Sheet) (s : Cells) (budget : ℕ) → Bool
settles n c s budget = leb (settling n c s budget) budget

abbrev pub columns_settle : (n : ℕ) (d : Cells) (budget : ℕ) → Check
columns_settle n d budget = each 9 n (λ j. settles n (at n d) (unit n j) budget)

-- document 02, ticket 5: "a budget of 1,400 settles every production, price and inverse column that passes the other questions". Of productions
abbrev pub production_budget : ℕ
production_budget = 1_400

-- and of prices and inverse columns, which are in millionths
abbrev pub price_budget : ℕ
price_budget = 1_400

-- 10. reserved: no call asks it (document 02, ticket 8). What it asked is `demand_left` of Unsigned

-- 17. document 02, ticket 4, asked after 8: the second demand is nowhere below the first
abbrev pub not_below : (n : ℕ) (before after : Cells) → Check
not_below n before after = each 17 n (λ i. leb (cell before i) (cell after i))

-- what is asked of two demands, in order: 8 of the first, 8 of the second, 17
abbrev pub demand_checks : (n : ℕ) (before after : Cells) → List Check
demand_checks n before after = bounded 8 0 demand_limit before ∷ bounded 8 0 demand_limit after ∷ not_below n before after ∷ []

-- and then of their rounds: 9 of the first, 9 of the second
abbrev pub both_settle : (n : ℕ) (c : Sheet) (before after : Cells) (budget : ℕ) → List Check
both_settle n c before after budget = single 9 (settles n c before budget) ∷ single 9 (settles n c after budget) ∷ []
