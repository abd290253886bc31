-- What each call promises, as a record of named clauses: of what it is lent (before the call with ₀), of its answer r in the paper's numbers, and
-- of its slices after the call. A call says it of `report answer`, its C function of `report_told number place counts`. No result is left open:
-- number, place, counts and every lent cell are those of the definitions.
use Rattle.std.specs.Prelude.{◌≡◌, ◌↔◌, true, List, [], ◌∷◌, ◌++◌, map, reverse, ℕ, ◌*◌, ◌≤◌, ◌<◌, length, get_or, take, replicate}
use Rattle.model.specs.declared.Table.{Table as LentTable}
use Rattle.model.specs.Numbers.{Cells, SignedCells, signed, sum, cell, at, transposed}
use Rattle.model.specs.Table.{Table, table_of, table_by, column, final_demand, exports, adjustment, domestic_demand}
use Rattle.model.specs.Bytes.{Bytes, padded}
use Rattle.model.specs.Rounds.{settled, Settles, implied_demand, induced_value_added, induced_imports, inverse, dispersion, settling, impact}
use Rattle.model.specs.Checks.{Report, accepts, verdict, output, signed_output, rounds_of, sectors_of, bytes_of, table_amounts, column_sums, demand_limit, demand_checks, production_budget, price_budget}
use Rattle.model.specs.Calls.{table_checks, coefficients_report, input_coefficients, value_added_coefficients, import_coefficients, domestic_coefficients, table_demand, domestic_demand_report, production_report, price_report, implied_report, induced_report, inverse_report, impact_report}
use Rattle.model.specs.Aggregation.{merged_table, group_sizes, aggregate_report}
use Rattle.model.specs.Permutation.{inverse_list, permuted_table, permute_report}
use Rattle.model.specs.Promises.{Equal, Distinguishes, Accurate, AccuratePrices, Returns, NotAbove, NowhereBelow, added, OrderedInside, Rises, NearestShares, SameTotals, Undoes, SheetsGiven, SheetsPermuted, ProductionsPermuted, PricesPermuted}
use Rattle.model.specs.File.{Entry, Reading, reading, called, answer_of, flows_read, column_read, column_word, file_limit}
use Rattle.model.specs.Writer.{table_entries, written, file_bytes, writer_report, InForm, returned}
use Rattle.model.specs.Page.{refusal_line, page, page_limit, page_report, page_bytes}
use Rattle.model.specs.Unadjusted.{NoAdjustment, without_adjustment, unadjusted_report, unadjusted_demands, WithoutKind10, unadjusted_reading, unadjusted_file_page}
use Rattle.model.specs.Unsigned.{unsigned_report, unsigned_demand}

-- Sheets from a table t with F, E, M, V and X, by document 01's formulas, in which there is no G
pub record DerivedUnadjusted (t : Table) (a₀ v₀ m₀ d₀ f₀ : Cells) (r : Report) (a v m d f : Cells) : Type 0 where
  pub answer : r ≡ unadjusted_report t (length a₀ ∷ length d₀ ∷ []) (length v₀ ∷ length m₀ ∷ length f₀ ∷ [])
  pub inputs : a ≡ output r (length a₀) (input_coefficients t)
  pub values : v ≡ output r (length v₀) (value_added_coefficients t)
  pub imports : m ≡ output r (length m₀) (import_coefficients t)
  pub domestic : d ≡ output r (length d₀) (domestic_coefficients t)
  pub demands : f ≡ output r (length f₀) (unadjusted_demands t)

-- Sheets from a table t: a, v, m, d and f
pub record Derived (t : Table) (a₀ v₀ m₀ d₀ f₀ : Cells) (r : Report) (a v m d f : Cells) : Type 0 where
  pub answer : r ≡ coefficients_report t (length a₀ ∷ length d₀ ∷ []) (length v₀ ∷ length m₀ ∷ length f₀ ∷ [])
  pub inputs : a ≡ output r (length a₀) (input_coefficients t)
  pub values : v ≡ output r (length v₀) (value_added_coefficients t)
  pub imports : m ≡ output r (length m₀) (import_coefficients t)
  pub domestic : d ≡ output r (length d₀) (domestic_coefficients t)
  pub demands : f ≡ output r (length f₀) (domestic_demand t.sectors (import_coefficients t) (final_demand t) (exports t) (adjustment t))
  -- document 02, ticket 3: with G too, f is within the limit of question 8
  pub within_limit : r.accepted ≡ true → (i : ℕ) → i < t.sectors → cell f i ≤ demand_limit
  -- and where G is 0, answer and sheets are those of document 01's formulas without it
  pub unadjusted : NoAdjustment t → DerivedUnadjusted (without_adjustment t) a₀ v₀ m₀ d₀ f₀ r a v m d f
  -- document 02, ticket 6: "a, v and m to the nearest millionth, halves upward"
  pub shares : r.accepted ≡ true → NearestShares t a v m
  -- "so the accuracy rule holds over the new sheets": for every production that d and f settle at
  pub accurate : r.accepted ≡ true → (k : ℕ) (y : Cells) → Settles t.sectors (at t.sectors d) f k y → Accurate t.sectors d f y

-- The demand for domestic goods of a final demand F, with import shares m, exports E and an adjustment item G: the f of a table, also where no table has
-- this F, as with a scheme in it. A `before` is a final demand that is nowhere above F, as that without the scheme
pub record Demanded (n : ℕ) (m F E G out₀ : Cells) (r : Report) (out : Cells) : Type 0 where
  pub answer : r ≡ domestic_demand_report n m F E G (length out₀ ∷ [])
  pub outputs : out ≡ output r (length out₀) (domestic_demand n m F E G)
  -- with m, F, E and G of a table whose sheets are given, it is accepted and is the table's f
  pub of_table : (x imports value_added production : Cells) (matrices lent : List ℕ)
      → let t = table_by n x F E imports value_added production G in
      (coefficients_report t matrices lent).accepted ≡ true → m ≡ import_coefficients t → length out₀ ≡ n → (r ≡ accepts []) × (out ≡ table_demand t)
  -- it is within the limit of question 8
  pub within_limit : r.accepted ≡ true → (i : ℕ) → i < n → cell out i ≤ demand_limit
  -- where a final demand is nowhere below another, its demand for domestic goods is nowhere below either
  pub rises : r.accepted ≡ true → (before : Cells) → NowhereBelow n before F → NowhereBelow n (domestic_demand n m before E G) out
  -- so `impact` of the two passes 8, 8 and 17
  pub comparable : r.accepted ≡ true → (before : Cells) → NowhereBelow n before F
      → verdict (demand_checks n (domestic_demand n m before E G) out) [] ≡ accepts []
  -- what is added to it, of what is spent
  pub parts : r.accepted ≡ true → (before : Cells) → NowhereBelow n before F
      → OrderedInside n m (added before F) (added (domestic_demand n m before E G) out)

-- A table t with its sectors merged by groups (document 02, ticket 7). What is lent for the merged table is u₀ before the call and u after it
pub record Aggregated (t : Table) (groups : Cells) (u₀ : Table) (sizes₀ : Cells) (r : Report) (u : Table) (sizes : Cells) : Type 0 where
  pub answer : r ≡ aggregate_report t groups (length u₀.flows ∷ []) (map length u₀.columns ++ (length sizes₀ ∷ []))
  -- "the merged x", and "each merged column": F, E, M, V, X and G
  pub flows : u.flows ≡ output r (length u₀.flows) (merged_table t groups).flows
  pub columns : (c : ℕ) → column u c ≡ output r (length (column u₀ c)) (column (merged_table t groups) c)
  -- "how many sectors each group took in"
  pub took : sizes ≡ output r (length sizes₀) (group_sizes t.sectors groups)
  -- "The merged table passes 4, 5 and 6", and 1, 2, 3 and 16
  pub passes : r.accepted ≡ true → verdict (table_checks u [] []) [] ≡ accepts []
  -- so sheets from it, lent the right lengths, are refused by 7 alone
  pub seventh : r.accepted ≡ true
      → let g = u.sectors in
      coefficients_report u (g * g ∷ g * g ∷ []) (g ∷ g ∷ g ∷ []) ≡ verdict (column_sums g (at g (domestic_coefficients u)) ∷ []) []
  -- "the totals of x, F, E, M, V, X and G equal those before, as sums over the original cells"
  pub totals : r.accepted ≡ true → SameTotals t u
  -- the groups took in every sector
  pub every : r.accepted ≡ true → sum (length groups) (cell sizes) ≡ t.sectors

-- A table t with its sectors rearranged by a list (document 02, ticket 9). What is lent for the rearranged table is u₀ before the call and u after it
pub record Permuted (t : Table) (order : Cells) (u₀ : Table) (inverse₀ : Cells) (r : Report) (u : Table) (inverse : Cells) : Type 0 where
  pub answer : r ≡ permute_report t order (length u₀.flows ∷ []) (map length u₀.columns ++ (length inverse₀ ∷ []))
  -- the rearranged x, and each rearranged column: F, E, M, V, X and G
  pub flows : u.flows ≡ output r (length u₀.flows) (permuted_table t order).flows
  pub columns : (c : ℕ) → column u c ≡ output r (length (column u₀ c)) (column (permuted_table t order) c)
  -- "the inverse list"
  pub list : inverse ≡ output r (length inverse₀) (inverse_list t.sectors order)
  pub undoes : r.accepted ≡ true → Undoes t.sectors order inverse
  -- "Rearranging by the list and then by its inverse returns the table": it is accepted, into slices as long as those of t, and its inverse list is
  -- the list
  pub returns : r.accepted ≡ true
      → (permute_report u inverse (length t.flows ∷ []) (map length t.columns ++ (length order ∷ [])) ≡ accepts [])
      × (permuted_table u inverse ≡ t) × (inverse_list t.sectors inverse ≡ order)
  -- "Where sheets from the old table are accepted, so are those from the new", and they are the old ones rearranged
  pub sheets : r.accepted ≡ true → SheetsGiven t → SheetsGiven u × SheetsPermuted order t u
  -- "production settled from f, and prices from direct rises rearranged alike, are the old ones rearranged, with the same count of rounds"
  pub productions : r.accepted ≡ true → SheetsGiven t → ProductionsPermuted order t u
  pub prices : r.accepted ≡ true → SheetsGiven t → PricesPermuted order t u

-- Production from a demand f for domestic goods. Demand 3 is `distinct` and `accurate`: an accepted production differs from that of every other
-- demand, and only from those; and against every exact balance it is nowhere too high, and all sectors together lack less than 20 × n
pub record Produced (n : ℕ) (d f : Cells) (budget : ℕ) (out₀ work₀ : Cells) (r : Report) (out work : Cells) : Type 0 where
  pub answer : r ≡ production_report n d f budget (length out₀ ∷ length work₀ ∷ [])
  pub outputs : out ≡ output r (length out₀) (settled n (at n d) f budget)
  pub cleared : work ≡ replicate (length work₀) 0
  -- its count is that of the first round that changes no sector, whatever the budget
  pub settles : r.accepted ≡ true → Settles n (at n d) f (rounds_of r) out
  pub distinct : r.accepted ≡ true → Distinguishes n d f out
  pub accurate : r.accepted ≡ true → Accurate n d f out
  -- document 02, ticket 5: "Number 9 then never comes from a budget of 1,400 or more"
  pub enough : r.number ≡ 9 → budget < production_budget

-- Price rises from direct rises w. `accurate`: against every exact balance of the column direction an accepted rise is nowhere above it, and in each
-- sector lacks less than 20 millionths
pub record Priced (n : ℕ) (d w : Cells) (budget : ℕ) (out₀ work₀ : Cells) (r : Report) (out work : Cells) : Type 0 where
  pub answer : r ≡ price_report n d w budget (length out₀ ∷ length work₀ ∷ [])
  pub outputs : out ≡ output r (length out₀) (settled n (transposed (at n d)) w budget)
  pub cleared : work ≡ replicate (length work₀) 0
  pub settles : r.accepted ≡ true → Settles n (transposed (at n d)) w (rounds_of r) out
  pub accurate : r.accepted ≡ true → AccuratePrices n d w out
  -- document 02, ticket 5, of prices
  pub enough : r.number ≡ 9 → budget < price_budget

-- The demand for domestic goods behind a production y, below 0 in a sector that is short. Demand 2 is `returns` and `inverse`: for a production that
-- rounds have settled it is the demand that they started from, and every production that the call of that name gives is accepted here and gives its
-- demand back. Going back and then forward need not return, which the paper leaves open: what holds is `back`, that where no sector is short the
-- production settled from it is nowhere above y
pub record Implied (n : ℕ) (d y : Cells) (out₀ : SignedCells) (r : Report) (out : SignedCells) : Type 0 where
  pub answer : r ≡ implied_report n d y (length out₀ ∷ [])
  pub outputs : out ≡ signed_output r (length out₀) (implied_demand n (at n d) y)
  pub returns : r.accepted ≡ true → Returns n d y out
  pub back : r.accepted ≡ true → NotAbove n d y out
  pub inverse : (f : Cells) (budget : ℕ) (lent : List ℕ) → (production_report n d f budget lent).accepted ≡ true → y ≡ settled n (at n d) f budget → length out₀ ≡ n
      → (r ≡ accepts []) × (out ≡ signed f)
  -- document 02, ticket 8: "Productions accepted before give the demand they gave", by document 01's own call
  pub as_before : (unsigned_report n d y (length out₀ ∷ [])).accepted ≡ true → (r ≡ accepts []) × (out ≡ signed (unsigned_demand n (at n d) y))
  -- and unless that call says 10, the answer is its answer
  pub same_answer : ((unsigned_report n d y (length out₀ ∷ [])).number ≡ 10 → ⊥) → r ≡ unsigned_report n d y (length out₀ ∷ [])
  -- "Number 10 stays reserved and no longer occurs"
  pub reserved : r.number ≡ 10 → ⊥

-- Value added and imports that a production y induces
pub record Induced (n : ℕ) (a m v F y value₀ imports₀ : Cells) (r : Report) (value imports : Cells) : Type 0 where
  pub answer : r ≡ induced_report n a m v F y (length value₀ ∷ length imports₀ ∷ [])
  pub values : value ≡ output r (length value₀) (induced_value_added n v y)
  pub imported : imports ≡ output r (length imports₀) (induced_imports n (at n a) m F y)

-- The Leontief inverse of a domestic sheet, with the power and the sensitivity of dispersion of its sectors
pub record Inverted (n : ℕ) (d : Cells) (budget : ℕ) (sheet₀ power₀ sensitivity₀ : Cells) (r : Report) (sheet power sensitivity : Cells) : Type 0 where
  pub answer : r ≡ inverse_report n d budget (length sheet₀ ∷ []) (length power₀ ∷ length sensitivity₀ ∷ [])
  pub sheets : sheet ≡ output r (length sheet₀) (inverse n d budget)
  pub powers : power ≡ output r (length power₀) (dispersion n (at n (inverse n d budget)))
  pub sensitivities : sensitivity ≡ output r (length sensitivity₀) (dispersion n (transposed (at n (inverse n d budget))))
  -- document 02, ticket 5, of inverse columns
  pub enough : r.number ≡ 9 → budget < price_budget

-- What a scheme adds: the rise of production from a demand before to a demand after (document 02, ticket 4)
pub record Compared (n : ℕ) (d before after : Cells) (budget : ℕ) (out₀ work₀ : Cells) (r : Report) (out work : Cells) : Type 0 where
  pub answer : r ≡ impact_report n d before after budget (length out₀ ∷ length work₀ ∷ [])
  pub outputs : out ≡ output r (length out₀) (impact n (at n d) before after budget)
  pub cleared : work ≡ replicate (length work₀) 0
  -- accepted exactly where `production` accepts each demand, and the second is nowhere below the first
  pub asks : r.accepted ≡ true
      ↔ (((production_report n d before budget (length out₀ ∷ length work₀ ∷ [])).accepted ≡ true)
      × ((production_report n d after budget (length out₀ ∷ length work₀ ∷ [])).accepted ≡ true)
      × NowhereBelow n before after)
  -- both demands settle, at these amounts after these counts of rounds; the count of the answer is the larger of them (`impact_rounds`)
  pub settles : r.accepted ≡ true
      → Settles n (at n d) before (settling n (at n d) before budget) (settled n (at n d) before budget)
      × Settles n (at n d) after (settling n (at n d) after budget) (settled n (at n d) after budget)
  -- the rise between the two: no sector falls, each rises by at least what was added to it, all together by less than 20 × T + 20 × n
  pub rises : r.accepted ≡ true → Rises n before after (settled n (at n d) before budget) (settled n (at n d) after budget) out
  -- equal demands give 0 in every cell, also where the call is refused
  pub equal : Equal n before after → out ≡ replicate (length out₀) 0
  -- document 02, ticket 5, of both productions
  pub enough : r.number ≡ 9 → budget < production_budget

-- The slices that a table file is read into, or written from: x, F, E, M, V, X, G and the rises
pub record Slices : Type 0 where
  pub flows : Cells
  pub final_demand : Cells
  pub exports : Cells
  pub imports : Cells
  pub value_added : Cells
  pub production : Cells
  pub adjustment : Cells
  pub rises : Cells

-- by their order in a call
abbrev pub slices_of : (x f e m v p g w : Cells) → Slices
slices_of x f e m v p g w =
    record { flows = x; final_demand = f; exports = e; imports = m; value_added = v; production = p; adjustment = g; rises = w }

-- of a table as the code lends it, with the rises beside it
abbrev pub slices_lent : LentTable → (w : Cells) → Slices
slices_lent t w = slices_of t.flows.now t.final_demand.now t.exports.now t.imports.now t.value_added.now t.production.now t.adjustment.now w

-- its seven columns
abbrev pub columns_of : Slices → List Cells
columns_of s = s.final_demand ∷ s.exports ∷ s.imports ∷ s.value_added ∷ s.production ∷ s.adjustment ∷ s.rises ∷ []

-- the reading of a file into slices and work words of these lengths
abbrev pub reading_into : (file : Bytes) (s₀ : Slices) (marks₀ : Cells) → Reading
reading_into file s₀ marks₀ = called (length s₀.flows) (map length (columns_of s₀)) (length marks₀) file

-- what a reading leaves in the slices; the columns by their words
pub record Delivered (o : Reading) (s₀ s : Slices) : Type 0 where
  pub flows : s.flows ≡ flows_read (length s₀.flows) o
  pub final_demand : s.final_demand ≡ column_read (column_word 0) (length s₀.final_demand) o
  pub exports : s.exports ≡ column_read (column_word 1) (length s₀.exports) o
  pub imports : s.imports ≡ column_read (column_word 2) (length s₀.imports) o
  pub value_added : s.value_added ≡ column_read (column_word 3) (length s₀.value_added) o
  pub production : s.production ≡ column_read (column_word 4) (length s₀.production) o
  pub adjustment : s.adjustment ≡ column_read (column_word 5) (length s₀.adjustment) o
  pub rises : s.rises ≡ column_read (column_word 6) (length s₀.rises) o

-- "Cells beyond n are 0": of x from cell n × n on, and of each column from cell n on
pub record Beyond (n : ℕ) (s : Slices) : Type 0 where
  pub flows : (k : ℕ) → n * n ≤ k → cell s.flows k ≡ 0
  pub columns : (c k : ℕ) → n ≤ k → cell (get_or (columns_of s) c []) k ≡ 0

-- A table file read into slices. `beyond` speaks of the n that the answer tells: after a refusal that is 0, and so is every cell
pub record FileRead (file : Bytes) (s₀ : Slices) (marks₀ : Cells) (r : Report) (s : Slices) (marks : Cells) : Type 0 where
  pub answer : r ≡ answer_of (reading_into file s₀ marks₀)
  pub delivered : Delivered (reading_into file s₀ marks₀) s₀ s
  pub beyond : Beyond (sectors_of r) s
  -- document 02, ticket 3: "A file without kind 10 means G = 0", and is read as by document 01's own reader
  pub unadjusted : WithoutKind10 file → (s.adjustment ≡ replicate (length s₀.adjustment) 0) × (reading file ≡ unadjusted_reading file)
  pub cleared : marks ≡ replicate (length marks₀) 0

-- the table in slices, with the rises as its last column
abbrev pub table_from : ℕ → Slices → Table
table_from n s = table_of n s.flows (columns_of s)

-- What is promised of the file of the table t, which begins the 12,883 bytes that were lent: document 02, ticket 1
pub record Archived (t : Table) (file lent : Bytes) : Type 0 where
  pub fits : length file ≤ file_limit
  -- it is itself accepted, its cells in the order in which it was written (a reading has the last one first)
  pub accepted : reading file ≡ Reading.table t.sectors (reverse (table_entries t))
  -- "Reading a written file returns the table"
  pub returns : returned (reading file) ≡ t
  -- it has the form, and is "the only file of this form for that table"
  pub form : InForm file
  pub only : (z : Bytes) → InForm z → returned (reading z) ≡ t → z ≡ file
  -- "Two written files have equal bytes exactly when n and all cells are equal": the files, and all bytes that were lent
  pub equal_files : (m : ℕ) (u : Slices) → (writer_report (table_from m u) file_limit).accepted ≡ true → (file ≡ written (table_from m u)) ↔ (t ≡ table_from m u)
  pub equal_bytes : (m : ℕ) (u : Slices) → (writer_report (table_from m u) file_limit).accepted ≡ true → (lent ≡ file_bytes (table_from m u)) ↔ (t ≡ table_from m u)

-- A table written as a file
pub record FileWritten (n : ℕ) (s : Slices) (file₀ : Bytes) (r : Report) (file : Bytes) : Type 0 where
  pub answer : r ≡ writer_report (table_from n s) (length file₀)
  pub outputs : file ≡ output r (length file₀) (file_bytes (table_from n s))
  pub archived : r.accepted ≡ true → Archived (table_from n s) (take (bytes_of r) file) file
  -- "what was read from any accepted file whose amounts pass question 3" is accepted, and so has the file of `archived`
  pub rewrites : (z : Bytes) (es : List Entry) → reading z ≡ Reading.table n es → returned (reading z) ≡ table_from n s
      → (verdict (table_amounts (table_from n s)) []).accepted ≡ true → length file₀ ≡ file_limit → r.accepted ≡ true

-- The page of a table file, written into a buffer of 2,851 bytes, and how many bytes it has
pub record PagePrinted (file out₀ : Bytes) (r : Report) (out : Bytes) : Type 0 where
  pub answer : r ≡ page_report (length out₀) file
  pub outputs : out ≡ output r (length out₀) (page_bytes file)
  -- document 02, ticket 3: a file without kind 10 "keeps its results", by document 01's own reader and formulas
  pub unadjusted : WithoutKind10 file → page_bytes file ≡ padded page_limit (unadjusted_file_page file)
  -- document 02, ticket 5: the program's budget settles every production, so no page is `refused 9 0`, nor with another place
  pub enough : (place : ℕ) → page file ≡ refusal_line 9 place → ⊥
