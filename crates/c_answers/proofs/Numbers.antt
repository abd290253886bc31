-- The number alone tells whether a call was accepted: acceptance has number 0, and a refusal another. So what a call promises of its answer, it
-- promises of the numbers that tell it. Assumes nothing.
use mathlib.Core.Bool.{Bool, true}
use mathlib.Core.List.{List, [], ◌∷◌, ◌++◌}
use mathlib.Core.Path.{◌≡◌, refl, sym, subst⁻¹}
use Prim.Native.Nat.{ℕ}
use native.Mathlib.Omega.{arith}
use borrow.Author.Tests.{ne_eqb, leb-true}
use lib.Dec.{eqb, leb}
use lib.IntN.{ℤ}
use lib.ListN.{length}
use Rattle.model.specs.Numbers.{at, transposed}
use Rattle.model.specs.Table.{Table}
use Rattle.model.specs.Rounds.{settling, inverse_rounds, impact_rounds}
use Rattle.model.specs.Checks.{Report, report_told, Check, amount_limit, balance_checks, both_settle, verdict, column_sums, columns_settle, demand_checks, demand_limit, induced_amounts, lengths, production_total, rise_limit, single, size, table_amounts}
use Rattle.model.specs.Calls.{coefficients_report, domestic_coefficients, domestic_demand_checks, domestic_demand_report, impact_report, implied_checks, implied_report, induced_report, inverse_report, matrix_checks, price_report, production_report, settling_checks, table_checks}
use Rattle.model.specs.Aggregation.{partitioned, merged_within, aggregate_checks, aggregate_report}
use Rattle.model.specs.Permutation.{entries_fresh, permute_checks, permute_report}
use Rattle.model.specs.CallContracts.{Derived, Demanded, Aggregated, Permuted, Produced, Priced, Compared, Implied, Induced, Inverted, Slices, reading_into, FileRead, FileWritten, table_from, PagePrinted}
use Rattle.model.specs.File.{Reading, answer_of}
use Rattle.model.specs.Writer.{written, writer_checks, writer_report}
use Rattle.model.specs.Page.{page, page_limit, page_report}
use Rattle.theory.proofs.Lists.{and_true}
use Rattle.theory.proofs.Verdicts.{asked, numbers_pass, numbers_both, counted_numbers}
use Rattle.theory_files.specs.Files.{input_limit}
use Rattle.theory_files.proofs.Readings.{Answered}
use Rattle.theory_files.proofs.Beyond.{called_answered}
use Rattle.c_answers.specs.Told.{Told}

-- a report that is accepted exactly where its number is 0
abbrev pub Numbered : Report → Type 0
Numbered r = r.accepted ≡ eqb r.number 0

-- no check of a list has number 0
abbrev nonzero : List Check → Bool
nonzero = numbers_pass (leb 1)

numbered : (qs : List Check) (ks : List ℕ) → nonzero qs ≡ true → Numbered (verdict qs ks)
numbered [] ks e = refl
numbered (q ∷ qs) ks e =
    let p = and_true (leb 1 q.number) (nonzero qs) e in
    let some = leb-true 1 q.number p.0 in
    asked Numbered q qs ks (λ _. sym (ne_eqb q.number 0 (λ z. omega arith))) (λ _. numbered qs ks p.1)

-- Theorems, for the reader: each call, from `coefficients_number` to `page_number`, is accepted exactly where its number is 0
module _ (t : Table) (matrices lent : List ℕ) where
  amounts_numbers : nonzero (table_amounts t) ≡ true
  amounts_numbers = counted_numbers (leb 1) 0 amount_limit (t.flows ∷ t.columns) refl

  -- 3, 16, 4, 5 and 6
  contents_numbers : nonzero (table_amounts t ++ balance_checks t) ≡ true
  contents_numbers = numbers_both (leb 1) (table_amounts t) (balance_checks t) amounts_numbers refl

  pub coefficients_number : Numbered (coefficients_report t matrices lent)
  unfolding coefficients_report
  coefficients_number =
      let seventh = column_sums t.sectors (at t.sectors (domestic_coefficients t)) ∷ [] in
      numbered (table_checks t matrices lent ++ seventh) [] (numbers_both (leb 1) (table_amounts t ++ balance_checks t) seventh contents_numbers refl)

  pub aggregate_number : (groups : List ℕ) → Numbered (aggregate_report t groups matrices lent)
  unfolding aggregate_report
  aggregate_number groups =
      numbered (aggregate_checks t groups matrices lent) []
      (numbers_both (leb 1) (table_amounts t ++ balance_checks t) (partitioned t groups ∷ merged_within t groups ∷ []) contents_numbers refl)

  pub permute_number : (order : List ℕ) → Numbered (permute_report t order matrices lent)
  unfolding permute_report
  permute_number order =
      numbered (permute_checks t order matrices lent) []
      (numbers_both (leb 1) (table_amounts t) (entries_fresh t.sectors order ∷ []) amounts_numbers refl)

pub demand_number : (n : ℕ) (m F E G lent : List ℕ) → Numbered (domestic_demand_report n m F E G lent)
unfolding domestic_demand_report
demand_number n m F E G lent = numbered (domestic_demand_checks n m F E G lent) [] refl

module _ (n : ℕ) (d : List ℕ) where
  pub production_number : (f : List ℕ) (budget : ℕ) (lent : List ℕ) → Numbered (production_report n d f budget lent)
  unfolding production_report
  production_number f budget lent = numbered (settling_checks n d (at n d) demand_limit f budget lent) (settling n (at n d) f budget ∷ []) refl

  pub price_number : (w : List ℕ) (budget : ℕ) (lent : List ℕ) → Numbered (price_report n d w budget lent)
  unfolding price_report
  price_number w budget lent =
      numbered (settling_checks n d (transposed (at n d)) rise_limit w budget lent) (settling n (transposed (at n d)) w budget ∷ []) refl

  pub implied_number : (y lent : List ℕ) → Numbered (implied_report n d y lent)
  unfolding implied_report
  implied_number y lent = numbered (implied_checks n d y lent) [] refl

  pub inverse_number : (budget : ℕ) (matrices lent : List ℕ) → Numbered (inverse_report n d budget matrices lent)
  unfolding inverse_report
  inverse_number budget matrices lent =
      numbered (matrix_checks n d matrices lent ++ (columns_settle n d budget ∷ [])) (inverse_rounds n d budget ∷ []) refl

  pub impact_number : (before after : List ℕ) (budget : ℕ) (lent : List ℕ) → Numbered (impact_report n d before after budget lent)
  unfolding impact_report
  impact_number before after budget lent =
      numbered (matrix_checks n d [] (length before ∷ length after ∷ lent) ++ demand_checks n before after ++ both_settle n (at n d) before after budget)
      (impact_rounds n (at n d) before after budget ∷ []) refl

pub induced_number : (n : ℕ) (a m v F y lent : List ℕ) → Numbered (induced_report n a m v F y lent)
unfolding induced_report
induced_number n a m v F y lent =
    let columns = length m ∷ length v ∷ length F ∷ length y ∷ lent in
    numbered (size n ∷ lengths n (length a ∷ []) columns ∷ induced_amounts a m v F ++ (production_total n y ∷ [])) [] refl

-- ---- the reader
answered_number : (o : Reading) (most : ℕ) → Answered most o → Numbered (answer_of o)
answered_number (Reading.refused q p) most a = sym (ne_eqb q 0 (λ e. omega (arith, a.0)))
answered_number (Reading.table n es) most a = refl

pub read_number : (file : List ℕ) (s₀ : Slices) (marks₀ : List ℕ) → Numbered (answer_of (reading_into file s₀ marks₀))
read_number file s₀ marks₀ = answered_number (reading_into file s₀ marks₀) input_limit (called_answered _ _ _ file)

-- ---- the writer
pub written_number : (n : ℕ) (s : Slices) (file : ℕ) → Numbered (writer_report (table_from n s) file)
unfolding writer_report
written_number n s file = numbered (writer_checks (table_from n s) file) (length (written (table_from n s)) ∷ []) refl

-- ---- the page call
pub page_number : (len : ℕ) (s : List ℕ) → Numbered (page_report len s)
unfolding page_report
page_number len s = numbered (single 2 (eqb page_limit len) ∷ []) (length (page s) ∷ []) refl

-- ---- what a call promises of its answer r, it promises of the numbers that tell it
module _ {number place : ℕ} {counts : List ℕ} where
  as_told : (r : Report) {s : Report} → Told r number place counts → r ≡ s → Numbered s → report_told number place counts ≡ r
  as_told r t e q = rw (t.0, t.1, t.2, sym (subst⁻¹ Numbered e q)) refl

  module _ {r : Report} (told : Told r number place counts) where
    pub derived_told : {t : Table} {a₀ v₀ m₀ d₀ f₀ a v m d f : List ℕ} → Derived t a₀ v₀ m₀ d₀ f₀ r a v m d f
        → Derived t a₀ v₀ m₀ d₀ f₀ (report_told number place counts) a v m d f
    derived_told {t} made = rw (as_told r told made.answer (coefficients_number t _ _)) made

    pub demanded_told : {n : ℕ} {m F E G o out : List ℕ} → Demanded n m F E G o r out → Demanded n m F E G o (report_told number place counts) out
    demanded_told {n} {m} {F} {E} {G} made = rw (as_told r told made.answer (demand_number n m F E G _)) made

    pub aggregated_told : {t u₀ u : Table} {groups sizes₀ sizes : List ℕ} → Aggregated t groups u₀ sizes₀ r u sizes
        → Aggregated t groups u₀ sizes₀ (report_told number place counts) u sizes
    aggregated_told {t} {u₀} {u} {groups} made = rw (as_told r told made.answer (aggregate_number t _ _ groups)) made

    pub permuted_told : {t u₀ u : Table} {order inverse₀ inverse : List ℕ} → Permuted t order u₀ inverse₀ r u inverse
        → Permuted t order u₀ inverse₀ (report_told number place counts) u inverse
    permuted_told {t} {u₀} {u} {order} made = rw (as_told r told made.answer (permute_number t _ _ order)) made

    pub produced_told : {n budget : ℕ} {d f o w out work : List ℕ} → Produced n d f budget o w r out work
        → Produced n d f budget o w (report_told number place counts) out work
    produced_told {n} {budget} {d} {f} made = rw (as_told r told made.answer (production_number n d f budget _)) made

    pub priced_told : {n budget : ℕ} {d w o u out work : List ℕ} → Priced n d w budget o u r out work
        → Priced n d w budget o u (report_told number place counts) out work
    priced_told {n} {budget} {d} {w} made = rw (as_told r told made.answer (price_number n d w budget _)) made

    pub compared_told : {n budget : ℕ} {d before after o w out work : List ℕ} → Compared n d before after budget o w r out work
        → Compared n d before after budget o w (report_told number place counts) out work
    compared_told {n} {budget} {d} {before} {after} made = rw (as_told r told made.answer (impact_number n d before after budget _)) made

    pub implied_told : {n : ℕ} {d y : List ℕ} {o out : List ℤ} → Implied n d y o r out → Implied n d y o (report_told number place counts) out
    implied_told {n} {d} {y} made = rw (as_told r told made.answer (implied_number n d y _)) made

    pub induced_told : {n : ℕ} {a m v F y b c value imports : List ℕ} → Induced n a m v F y b c r value imports
        → Induced n a m v F y b c (report_told number place counts) value imports
    induced_told {n} {a} {m} {v} {F} {y} made = rw (as_told r told made.answer (induced_number n a m v F y _)) made

    pub inverted_told : {n budget : ℕ} {d b c e z power sensitivity : List ℕ} → Inverted n d budget b c e r z power sensitivity
        → Inverted n d budget b c e (report_told number place counts) z power sensitivity
    inverted_told {n} {budget} {d} made = rw (as_told r told made.answer (inverse_number n d budget _ _)) made

    pub read_told : {file marks₀ marks : List ℕ} {s₀ s : Slices} → FileRead file s₀ marks₀ r s marks
        → FileRead file s₀ marks₀ (report_told number place counts) s marks
    read_told {file} {marks₀} {marks} {s₀} made = rw (as_told r told made.answer (read_number file s₀ marks₀)) made

    pub written_told : {n : ℕ} {s : Slices} {file₀ file : List ℕ} → FileWritten n s file₀ r file → FileWritten n s file₀ (report_told number place counts) file
    written_told {n} {s} made = rw (as_told r told made.answer (written_number n s _)) made

    pub page_told : {file out₀ out : List ℕ} → PagePrinted file out₀ r out → PagePrinted file out₀ (report_told number place counts) out
    page_told {file} made = rw (as_told r told made.answer (page_number _ file)) made
