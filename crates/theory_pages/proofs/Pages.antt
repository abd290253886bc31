-- No page is longer than 2,851 bytes, and none is a refusal with 9, whatever the input. Assumes nothing.
use mathlib.Core.Bool.{Bool, true, false, not, ◌&&◌, cond}
use mathlib.Core.List.{List, [], ◌∷◌, ◌++◌, map, append_assoc}
use mathlib.Core.Path.{◌≡◌, refl, sym, ap, subst⁻¹, ◌∙◌}
use Prim.Native.Nat.{ℕ, zero, suc, ◌+◌, ◌*◌, ◌/◌, ◌^◌, ◌≤◌, ◌<◌, suc-le-suc}
use native.Mathlib.Nat.{le_refl, zero-lt-suc, not-suc-le-zero, le_step, lt-suc_self, mul-le-mul}
use native.Mathlib.Omega.{arith}
use borrow.Author.Tests.{ltb-true, lt-ltb, eqb-false, ne_eqb, not-true}
use lib.Dec.{eqb, ltb, lit≤, lit<}
use lib.ListN.{length, replicate, length-append}
use lib.Seq.{sets}
use Rattle.model.specs.Numbers.{cell, at}
use Rattle.model.specs.Table.{Table, final_demand, portion, sector_limit}
use Rattle.model.specs.Rounds.{settling, intermediate, induced_value_added, induced_imports}
use Rattle.model.specs.Checks.{Report, accepts, rounds_of, Check, verdict, refuses, size, lengths, bounded, counted_on, amount_limit, table_amounts, balance_checks, column_sums}
use Rattle.model.specs.Calls.{table_checks, coefficients_report, input_coefficients, value_added_coefficients, import_coefficients, domestic_coefficients, table_demand, production_report, induced_report}
use Rattle.model.specs.File.{Reading, reading}
use Rattle.model.specs.Text.{digits, decimal, line}
use Rattle.model.specs.Figures.{page_budget, figures_report, figures_production, figures_value, figures_imports}
use Rattle.model.specs.Page.{headings, refusal_line, or_refusal, sector_line, lines_to, rounds_line, sheet, table_page, table_read, reading_page, page, page_limit, page_bytes, page_report}
use Rattle.theory_files.specs.Files.{input_limit}
use Rattle.theory.specs.Slices.{Columns}
use Rattle.theory.proofs.Sums.{upto, sum-cell, cell_in}
use Rattle.theory.proofs.Lists.{cell-tabulate, and_true}
use Rattle.theory.proofs.Shares.{portion_le}
use Rattle.theory_rounds.proofs.Rounds.{weighted_shares, intermediate-within}
use Rattle.theory.proofs.Verdicts.{Passes, asked, single_failed, number_passes, numbers_both, counted_numbers}
use Rattle.theory_rounds.proofs.Answers.{InducedGiven, accepted_induced}
use Rattle.theory_budgets.proofs.Budgets.{production_settles}
use Rattle.theory_tables.proofs.Tables.{table_sizes}
use Rattle.theory_tables.proofs.Prepared.{table_demand_small, matrix_is_accepted, production_accepted, induced_ready}
use Rattle.theory.proofs.Decimals.{first_digit, decimal-fits, line-fits}
use Rattle.theory.proofs.Stores.{over_zeros}
use Rattle.theory_files.proofs.Walks.{reading_holds}
use Rattle.theory_files.proofs.Readings.{Answered, reading_answered}

-- ---- a refusal: its number and its place have five digits at most
refusal_fits : (number place : ℕ) → number + place < 100000 → length (refusal_line number place) ≤ page_limit
unfolding refusal_line
refusal_fits number place h =
    omega (
      arith,
      length-append (decimal number) (32 ∷ decimal place ++ (10 ∷ [])),
      length-append (decimal place) (10 ∷ []),
      decimal-fits 4 number (omega arith),
      decimal-fits 4 place (omega arith),
    )

-- so a report with such a number and place is short
abbrev Near : Report → Type 0
Near r = r.number + r.place < 100000

-- a check whose number and places are few, and what is asked once it passes
check_near : (q : Check) (qs : List Check) (k : List ℕ) → q.number + q.offset + q.places ≤ 100000 → (Passes q → Near (verdict qs k)) → Near (verdict (q ∷ qs) k)
check_near q qs k few = asked Near q qs k (λ low. omega (arith, low, few))

-- numbers and places of all checks of a list: no refusal has more
abbrev reach : List Check → ℕ
reach [] = 0
reach (q ∷ qs) = q.number + q.offset + q.places + reach qs

verdict_near : (qs : List Check) (k : List ℕ) → reach qs ≤ 100000 → Near (verdict qs k)
verdict_near [] k h = lit< tt
verdict_near (q ∷ qs) k h = check_near q qs k (omega arith) (λ _. verdict_near qs k (omega arith))

-- slices of n cells each: their places are counted on, n at a slice
slices_near : (n place limit : ℕ) (ss : List (List ℕ)) (qs : List Check) (k : List ℕ) → Columns n ss → 3 + place + length ss * n ≤ 100000
    → Near (verdict qs k) → Near (verdict (counted_on place (map (bounded 3 0 limit) ss) ++ qs) k)
slices_near n place limit [] qs k c few more = more
slices_near n place limit (s ∷ ss) qs k c few more =
    let long : length s ≡ n = c 0 (zero-lt-suc (length ss)) in
    check_near (bounded 3 place limit s) (counted_on (place + length s) (map (bounded 3 0 limit) ss) ++ qs) k (omega arith) (λ _.
    slices_near n (place + length s) limit ss qs k (λ i h. c (suc i) (suc-le-suc h)) (omega arith) more)

-- ---- the number that a refusal shows is that of a question; none is 90 or more
abbrev other : ℕ → Bool
other number = not (eqb number 9) && ltb number 90

-- the line of one that is not 9 has another first digit than that of 9
refusal_nine : (number place p : ℕ) → other number ≡ true → refusal_line number place ≡ refusal_line 9 p → ⊥
unfolding refusal_line digits
refusal_nine number place p e z =
    let t = and_true (not (eqb number 9)) (ltb number 90) e in
    let nine = eqb-false number 9 (not-true (eqb number 9) t.0) in
    let low = ltb-true number 90 t.1 in
    split nine low (ltb number 10) refl (sym (first_digit number (32 ∷ decimal place ++ (10 ∷ [])) (omega arith)) ∙ ap (λ (l : List ℕ). cell l 8) z)
  where
    split : (number ≡ 9 → ⊥) → number < 90 → (b : Bool) → ltb number 10 ≡ b → cond b (48 + number) (48 + number / 10) ≡ 57 → ⊥
    split nine low true e z = nine (omega arith)
    split nine low false e z = omega arith

-- and a sheet begins with another letter
sheet_nine : (n : ℕ) (f y v m : List ℕ) (k place : ℕ) → sheet n f y v m k ≡ refusal_line 9 place → ⊥
unfolding sheet refusal_line
sheet_nine n f y v m k place z = eqb-false 115 114 refl (ap (λ (l : List ℕ). cell l 0) z)

-- ---- the sheet: 39 bytes, n lines of at most 70, and 12
lines_fit : (n : ℕ) (w : ℕ → List ℕ) (most : ℕ) → ((i : ℕ) → i < n → length (w i) ≤ most) → length (lines_to n w) ≤ n * most
lines_fit zero w most h = omega arith
lines_fit (suc n) w most h =
    omega (arith, length-append (lines_to n w) (w n), lines_fit n w most (λ i l. h i (le_step l)), h n (lt-suc_self n))

-- amounts of 13 digits at most, in the first n sectors
abbrev Printable : ℕ → List ℕ → Type 0
Printable n xs = (i : ℕ) → i < n → cell xs i < 10 ^ 13

sector_fits : (n : ℕ) (f y v m : List ℕ) → n ≤ sector_limit → Printable n f → Printable n y → Printable n v → Printable n m
    → (i : ℕ) → i < n → length (sector_line f y v m i) ≤ 70
sector_fits n f y v m few pf py pv pm i h =
    line-fits 12 ((i + 1) ∷ cell f i ∷ cell y i ∷ cell v i ∷ cell m i ∷ []) (lit≤ tt)
    (upto (upto (upto (upto (upto (λ k l. absurd (not-suc-le-zero l)) (omega arith)) (pf i h)) (py i h)) (pv i h)) (pm i h))

rounds_fits : (k : ℕ) → k ≤ page_budget → length (rounds_line k) ≤ 12
rounds_fits k h = omega (arith, length-append (decimal k) (10 ∷ []), decimal-fits 3 k (omega arith))

sheet-fits : (n : ℕ) (f y v m : List ℕ) (k : ℕ) → n ≤ sector_limit → Printable n f → Printable n y → Printable n v → Printable n m → k ≤ page_budget
    → length (sheet n f y v m k) ≤ page_limit
unfolding sheet
sheet-fits n f y v m k few pf py pv pm h =
    let lines = lines_to n (sector_line f y v m) in
    omega (
      arith,
      length-append (line headings) (lines ++ rounds_line k),
      length-append lines (rounds_line k),
      lines_fit n (sector_line f y v m) 70 (sector_fits n f y v m few pf py pv pm),
      rounds_fits k h,
    )

-- ---- the sheet of induced amounts: an accepted production has at most 1,600,000,000,000 in all, and shares of it and of the demand are no more
module _ (n : ℕ) (a m v F y lent : List ℕ) (g : InducedGiven n a m v F y lent) where
  production_printable : Printable n y
  production_printable i h = omega (arith, sum-cell n (cell y) i h)

  value_printable : Printable n (induced_value_added n v y)
  unfolding induced_value_added
  value_printable i h =
      omega (
        arith,
        cell-tabulate n (λ j. portion (cell v j) (cell y j)) i h,
        portion_le (cell v i) (cell y i) (g.values_small i h),
        production_printable i h,
      )

  imports_printable : Printable n (induced_imports n (at n a) m F y)
  unfolding induced_imports
  imports_printable i h =
      let taken = intermediate n (at n a) (cell y) i in
      omega (
        arith,
        cell-tabulate n (λ i. portion (cell m i) (intermediate n (at n a) (cell y) i + cell F i)) i h,
        portion_le (cell m i) (taken + cell F i) (g.imports_small i h),
        intermediate-within n (at n a) (cell y) i,
        weighted_shares n (at n a) (cell y) i (λ j l. g.inputs_small (i * n + j) (cell_in n i j h l)),
        g.demand_small i h,
      )

-- ---- the page of any table that has a column for final demand, and 40 columns at most
module _ (t : Table) (some-columns : 1 ≤ length t.columns) (few-columns : length t.columns ≤ sector_limit) where
  abbrev n : ℕ
  n = t.sectors

  abbrev d : List ℕ
  d = domestic_coefficients t

  abbrev f : List ℕ
  f = table_demand t

  abbrev y : List ℕ
  y = figures_production t

  abbrev squares : List ℕ
  squares = n * n ∷ n * n ∷ []

  abbrev columns : List ℕ
  columns = n ∷ n ∷ n ∷ []

  -- the reports of the three calls
  abbrev sheets : Report
  sheets = coefficients_report t squares columns

  abbrev settling_of : Report
  settling_of = production_report n d f page_budget (n ∷ n ∷ [])

  abbrev inducing : Report
  inducing = induced_report n (input_coefficients t) (import_coefficients t) (value_added_coefficients t) (final_demand t) y (n ∷ n ∷ [])

  -- the page by the report of the figures
  abbrev page_by : Report → List ℕ
  page_by r = or_refusal r (sheet n f y (figures_value t) (figures_imports t) (rounds_of r))

  -- questions 1 and 2 have place 0; the others have places in slices whose lengths have passed these two
  table_near : Near sheets
  unfolding coefficients_report
  table_near =
      let second = lengths n (length t.flows ∷ squares) (map length t.columns ++ columns) in
      let third = bounded 3 0 amount_limit t.flows in
      let amounts = counted_on (0 + length t.flows) (map (bounded 3 0 amount_limit) t.columns) in
      let seventh = column_sums n (at n d) ∷ [] in
      let later = amounts ++ balance_checks t ++ seventh in
      check_near (size n) (second ∷ third ∷ later) [] (lit≤ tt) (λ p.
      check_near second (third ∷ later) [] (lit≤ tt) (λ q.
      let z = (table_sizes t squares columns p q).0 in
      let square = mul-le-mul z.few z.few in
      check_near third later [] (omega (arith, square, z.flows)) (λ _.
      rw (append_assoc amounts (balance_checks t) seventh)
      (slices_near n (0 + length t.flows) amount_limit t.columns (balance_checks t ++ seventh) [] z.columns
      (omega (arith, square, z.flows, mul-le-mul few-columns z.few))
      (verdict_near (balance_checks t ++ seventh) [] (omega (arith, z.few)))))))

  -- where the sheets are accepted so are the other two calls: the figures have the count of rounds
  abbrev k : ℕ
  k = settling n (at n d) f page_budget

  produces : sheets.accepted ≡ true → settling_of ≡ accepts (k ∷ [])
  produces ok = production_accepted t squares columns ok page_budget (le_refl page_budget)

  induces : sheets.accepted ≡ true → inducing ≡ accepts []
  induces ok = induced_ready t squares columns ok some-columns page_budget (ap (λ (r : Report). r.accepted) (produces ok))

  figures_on : sheets.accepted ≡ true → figures_report t ≡ accepts (k ∷ [])
  unfolding figures_report
  figures_on ok = rw (ok, produces ok, induces ok) refl

  figures_stop : sheets.accepted ≡ false → figures_report t ≡ refuses 1 sheets.number sheets.place
  unfolding figures_report
  figures_stop stopped = rw stopped refl

  -- so the page of a table is its sheet, or what refused the sheets: a property of both is one of the page
  table_page_lem : (P : List ℕ → Type 0) → (sheets.accepted ≡ true → P (page_by (accepts (k ∷ [])))) → P (refusal_line sheets.number sheets.place) → P (table_page t)
  unfolding table_page
  table_page_lem P on stop = split sheets.accepted refl
    where
      split : (b : Bool) → sheets.accepted ≡ b → P (page_by (figures_report t))
      split true e = subst⁻¹ (λ (r : Report). P (page_by r)) (figures_on e) (on e)
      split false e = subst⁻¹ (λ (r : Report). P (page_by r)) (figures_stop e) stop

  figures_fit : sheets.accepted ≡ true → length (page_by (accepts (k ∷ []))) ≤ page_limit
  figures_fit ok =
      let a = input_coefficients t in
      let m = import_coefficients t in
      let v = value_added_coefficients t in
      let F = final_demand t in
      let g = accepted_induced n a m v F y (n ∷ n ∷ []) (ap (λ (r : Report). r.accepted) (induces ok)) in
      let small = table_demand_small t squares columns ok in
      sheet-fits n f y (figures_value t) (figures_imports t) k g.sizes.few
      (λ i h. omega (arith, small i h))
      (production_printable n a m v F y (n ∷ n ∷ []) g)
      (value_printable n a m v F y (n ∷ n ∷ []) g)
      (imports_printable n a m v F y (n ∷ n ∷ []) g)
      (production_settles (matrix_is_accepted t squares columns ok) f small page_budget (le_refl page_budget))

  pub table_fits : length (table_page t) ≤ page_limit
  table_fits = table_page_lem (λ p. length p ≤ page_limit) figures_fit (refusal_fits sheets.number sheets.place table_near)

  -- the sheets are never refused with 9, and a sheet does not begin as a refusal does
  sheets_number : other sheets.number ≡ true
  unfolding coefficients_report
  sheets_number =
      let seventh = column_sums n (at n d) ∷ [] in
      number_passes other (table_checks t squares columns ++ seventh) []
      (numbers_both other (table_amounts t ++ balance_checks t) seventh
      (numbers_both other (table_amounts t) (balance_checks t) (counted_numbers other 0 amount_limit (t.flows ∷ t.columns) refl) refl) refl)
      refl

  pub table_nine : (place : ℕ) → table_page t ≡ refusal_line 9 place → ⊥
  table_nine place =
      table_page_lem (λ p. p ≡ refusal_line 9 place → ⊥) (λ _. sheet_nine n f y (figures_value t) (figures_imports t) k place)
      (refusal_nine sheets.number sheets.place place sheets_number)

-- ---- the page of a file: its own refusals have a number up to 15, and a place up to 12,889
reading-fits : (r : Reading) → Answered input_limit r → length (reading_page r) ≤ page_limit
reading-fits (Reading.refused number place) p = refusal_fits number place (omega (arith, p.1, p.2))
reading-fits (Reading.table n es) p = table_fits (table_read n es) (lit≤ tt) (lit≤ tt)

-- Theorem, for the reader: no page is longer; a buffer of that length holds every page, whatever the numbers of s
pub page-fits : (s : List ℕ) → length (page s) ≤ page_limit
unfolding page
page-fits s = reading-fits (reading s) (reading_answered s)

-- Theorem, for the reader: document 02, ticket 5, over every file's bytes. The program's budget settles every production, so no page is `refused 9 0`,
-- nor with another place
pub never_nine : (s : List ℕ) (place : ℕ) → page s ≡ refusal_line 9 place → ⊥
unfolding page
never_nine s place =
    reading_holds s (λ o. reading_page o ≡ refusal_line 9 place → ⊥)
    (λ number p low high _. refusal_nine number p place (rw (ne_eqb number 9 (λ e. omega arith)) (lt-ltb number 90 (omega arith))))
    (λ _ _. Unit {0}) (λ es _ _ _. table_nine (table_read (cell s 1) es) (lit≤ tt) (lit≤ tt) place) (λ _ _ _ _. tt) (λ _. tt)

-- ---- the call: a buffer of the exact length, and one of another
pub written : (s : List ℕ) → (page_report page_limit s ≡ accepts (length (page s) ∷ [])) × (page_bytes s ≡ sets (replicate page_limit 0) 0 (page s))
unfolding page_report page_bytes
written s = (refl, sym (over_zeros page_limit (page s) (page-fits s)))

pub unwritten : (len : ℕ) (s : List ℕ) → (len ≡ page_limit → ⊥) → page_report len s ≡ refuses 1 2 0
unfolding page_report
unwritten len s h = single_failed 2 [] (length (page s) ∷ []) (ne_eqb page_limit len (λ e. h (sym e)))
