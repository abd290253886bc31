-- What the sheets of an accepted table are good for: production is decided by question 9 alone, so that a budget that always suffices is accepted, and what
-- it settles at is accepted by the calls for induced amounts and, as every production is, for implied demand. Assumes nothing.
use mathlib.Core.Path.{◌≡◌, refl, sym, ◌∙◌}
use mathlib.Core.Bool.{true}
use mathlib.Core.List.{List, [], ◌∷◌, ◌++◌}
use Prim.Native.Nat.{ℕ, suc, ◌+◌, ◌*◌, ◌-◌, ◌/◌, ◌%◌, ◌≤◌, ◌<◌}
use native.Mathlib.Nat.{le_trans}
use borrow.Author.Tests.{le-leb, leb-true, eq-eqb}
use lib.Dec.{eqb}
use lib.ListN.{length}
use Rattle.model.specs.Numbers.{one, sum, all, tabulate, cell, at, transposed}
use Rattle.model.specs.Table.{Table, final_demand, exports, adjustment, portion, input_coefficient, value_added_coefficient, import_coefficient, domestic_coefficient, domestic_demand}
use Rattle.model.specs.Rounds.{settling, settled}
use Rattle.model.specs.Checks.{Check, accepts, verdict, size, lengths, single, settles, demand_limit, production_budget, amount_limit, column_sums, induced_amounts, production_limit, production_total, column_limit}
use Rattle.model.specs.Calls.{table_checks, coefficients_report, production_report, induced_report, input_coefficients, value_added_coefficients, import_coefficients, domestic_coefficients, table_demand}
use Rattle.model.specs.Promises.{AcceptedMatrix, Accurate}
use Rattle.theory.proofs.Sums.{sum_part}
use Rattle.theory.proofs.Lists.{length-tabulate}
use Rattle.theory_rounds.proofs.Rounds.{settles-length}
use Rattle.theory.proofs.Verdicts.{AllPass, accepted_all, single_passed, all_pass_parts, pass_on, size_passes, lengths_pass}
use Rattle.theory_rounds.proofs.Answers.{Started, accepted_settled, nine_decides}
use Rattle.theory_budgets.proofs.Budgets.{production_settles}
use Rattle.theory_tables.proofs.Demands.{length_demand}
use Rattle.theory_tables.proofs.Tables.{Accepted, accepted_table, nearest_shares, inputs_small, demands_small}
use Rattle.theory_rounds.proofs.Promises.{accurate, settled_total}

-- the lengths of the sheets
length_inputs : (t : Table) → length (input_coefficients t) ≡ t.sectors * t.sectors
unfolding input_coefficients
length_inputs t = length-tabulate (t.sectors * t.sectors) (λ k. input_coefficient t (k / t.sectors) (k % t.sectors))

length_values : (t : Table) → length (value_added_coefficients t) ≡ t.sectors
unfolding value_added_coefficients
length_values t = length-tabulate t.sectors (value_added_coefficient t)

pub length_imports : (t : Table) → length (import_coefficients t) ≡ t.sectors
unfolding import_coefficients
length_imports t = length-tabulate t.sectors (import_coefficient t)

length_domestic : (t : Table) → length (domestic_coefficients t) ≡ t.sectors * t.sectors
unfolding domestic_coefficients
length_domestic t = length-tabulate (t.sectors * t.sectors) (λ k. domestic_coefficient t (k / t.sectors) (k % t.sectors))

length_demands : (t : Table) → length (table_demand t) ≡ t.sectors
length_demands t = length_demand t.sectors (import_coefficients t) (final_demand t) (exports t) (adjustment t)

module _ (t : Table) (matrices lent : List ℕ) (ok : (coefficients_report t matrices lent).accepted ≡ true) where
  abbrev seventh : List Check
  seventh = column_sums t.sectors (at t.sectors (domestic_coefficients t)) ∷ []

  passes : AllPass (table_checks t matrices lent) × AllPass seventh
  unfolding coefficients_report
  passes = all_pass_parts (table_checks t matrices lent) seventh (accepted_all (table_checks t matrices lent ++ seventh) [] ok)

  -- the table, its f, which is within the limit of question 8, and its domestic matrix
  pub table_accepted : Accepted t matrices lent
  table_accepted = accepted_table t matrices lent passes.0

  pub table_demand_small : (i : ℕ) → i < t.sectors → cell (table_demand t) i ≤ demand_limit
  table_demand_small = demands_small t table_accepted.balance table_accepted.small

  pub matrix_is_accepted : AcceptedMatrix t.sectors (domestic_coefficients t)
  matrix_is_accepted =
      record {
        some = table_accepted.sizes.some;
        few = table_accepted.sizes.few;
        cells = length_domestic t;
        low = λ j h. leb-true (sum t.sectors (transposed (at t.sectors (domestic_coefficients t)) j)) column_limit (passes.1.0 j h);
      }

  -- from its f all questions of production pass but 9
  pub table_started : Started t.sectors (domestic_coefficients t) demand_limit (table_demand t) (t.sectors ∷ t.sectors ∷ [])
  table_started = record { matrix = matrix_is_accepted; start = length_demands t; slices = (refl, (refl, tt)); small = table_demand_small }

  -- production of its d and f is never refused with 1, 2, 7 or 8: question 9 alone decides
  pub production_ready : (budget : ℕ)
      → let n = t.sectors in
      let d = domestic_coefficients t in
      let f = table_demand t in
      production_report n d f budget (n ∷ n ∷ []) ≡ verdict (single 9 (settles n (at n d) f budget) ∷ []) (settling n (at n d) f budget ∷ [])
  unfolding production_report
  production_ready budget = nine_decides t.sectors (domestic_coefficients t) (at t.sectors (domestic_coefficients t)) demand_limit (table_demand t) budget (t.sectors ∷ t.sectors ∷ []) table_started

  -- so it is accepted with every budget that settles every production
  pub production_accepted : (budget : ℕ) → production_budget ≤ budget
      → let n = t.sectors in
      let d = domestic_coefficients t in
      let f = table_demand t in
      production_report n d f budget (n ∷ n ∷ []) ≡ accepts (settling n (at n d) f budget ∷ [])
  production_accepted budget h =
      let f = table_demand t in
      let k = settling t.sectors (at t.sectors (domestic_coefficients t)) f budget in
      production_ready budget
      ∙ single_passed 9 [] (k ∷ []) (le-leb k budget (production_settles matrix_is_accepted f table_demand_small budget h))

  -- Theorem, for the reader: document 02, ticket 3, "The accuracy rule now speaks of demands that include G". The production that is settled from an
  -- accepted table's f, here written out, is near every exact balance of that f
  pub table_accurate : (budget : ℕ)
      → let n = t.sectors in
      let d = domestic_coefficients t in
      (production_report n d (table_demand t) budget (n ∷ n ∷ [])).accepted ≡ true
      → Accurate n d
      (tabulate n (λ i. portion (one - cell (import_coefficients t) i) (cell (final_demand t) i) + (cell (exports t) i + cell (adjustment t) i)))
      (settled n (at n d) (table_demand t) budget)
  unfolding production_report domestic_demand
  table_accurate budget settles =
      let n = t.sectors in
      let d = domestic_coefficients t in
      accurate matrix_is_accepted (accepted_settled n d (at n d) demand_limit (table_demand t) budget (n ∷ n ∷ []) settles).1

  -- and what it settles at is accepted for induced amounts
  pub induced_ready : 1 ≤ length t.columns → (budget : ℕ)
      → let n = t.sectors in
      let d = domestic_coefficients t in
      let f = table_demand t in
      (production_report n d f budget (n ∷ n ∷ [])).accepted ≡ true
      → induced_report n (input_coefficients t) (import_coefficients t) (value_added_coefficients t) (final_demand t) (settled n (at n d) f budget) (n ∷ n ∷ []) ≡ accepts []
  unfolding production_report induced_report
  induced_ready some-columns budget settles =
      let n = t.sectors in
      let a = input_coefficients t in
      let m = import_coefficients t in
      let v = value_added_coefficients t in
      let F = final_demand t in
      let columns = length m ∷ length v ∷ length F ∷ length y ∷ n ∷ n ∷ [] in
      let A = table_accepted in
      let shares = nearest_shares t A.balance in
      let slices : all (eqb n) columns ≡ true =
      rw (eq-eqb n (length m) (sym (length_imports t)), eq-eqb n (length v) (sym (length_values t)), eq-eqb n (length F) (sym (A.sizes.columns 0 some-columns)), eq-eqb n (length y) (sym len), eq-eqb n n refl) in
      let squares : all (eqb (n * n)) (length a ∷ []) ≡ true = rw (eq-eqb (n * n) (length a) (sym (length_inputs t))) in
      pass_on (size n ∷ lengths n (length a ∷ []) columns ∷ induced_amounts a m v F ++ (production_total n y ∷ [])) [] [] (
        size_passes n (length a ∷ []) columns A.sizes.some A.sizes.few,
        (
          lengths_pass n (length a ∷ []) columns squares slices,
          (
            λ i h. le-leb (cell a i) one (inputs_small t A.sizes.some A.balance i (rw (length_inputs t) at h)),
            (
              λ i h. le-leb (cell m i) one (shares.imported i (rw (length_imports t) at h)).within_one,
              (
                λ i h. le-leb (cell v i) one (shares.values i (rw (length_values t) at h)).within_one,
                (
                  λ i h. le-leb (cell F i) amount_limit (A.small.columns 0 i),
                  (λ i h. le-leb (sum (suc i) (cell y)) production_limit (le_trans (sum_part (suc i) n (cell y) h) total), tt),
                ),
              ),
            ),
          ),
        ),
      )
    where
      c : ℕ → ℕ → ℕ
      c = at t.sectors (domestic_coefficients t)

      y : List ℕ
      y = settled t.sectors c (table_demand t) budget

      len : length y ≡ t.sectors
      len =
          settles-length t.sectors c (length_demands t)
          (accepted_settled t.sectors (domestic_coefficients t) c demand_limit (table_demand t) budget (t.sectors ∷ t.sectors ∷ []) settles).1

      total : sum t.sectors (cell y) ≤ production_limit
      total = settled_total matrix_is_accepted (table_demand t) table_demand_small budget
