-- What `permute` knows where it accepts, and what it promises. Assumes nothing.
use mathlib.Core.Bool.{true}
use mathlib.Core.List.{List, [], ◌∷◌, ◌++◌, map}
use mathlib.Core.Path.{◌≡◌, refl, sym, ap, ap₂, ◌∙◌, subst⁻¹}
use Prim.Native.Nat.{ℕ, ◌*◌, ◌≤◌}
use native.Mathlib.Omega.{arith}
use lib.Dec.{leb}
use lib.ListN.{length}
use Rattle.model.specs.Numbers.{cell, at, transposed}
use Rattle.model.specs.Table.{Table, table_of, table_by, column}
use Rattle.model.specs.Rounds.{settling}
use Rattle.model.specs.Checks.{Report, accepts, verdict, output, single, table_amounts, demand_limit, rise_limit}
use Rattle.model.specs.Calls.{domestic_coefficients, table_demand, settling_report, production_report, price_report}
use Rattle.model.specs.Permutation.{inverse_list, fresh_entry, entries_fresh, permuted_column, permuted_table, permute_checks, permute_report}
use Rattle.model.specs.Promises.{Undoes, SheetsGiven, SheetsPermuted, ProductionsPermuted, PricesPermuted}
use Rattle.model.specs.CallContracts.{Permuted}
use Rattle.theory.specs.Slices.{Each}
use Rattle.theory.proofs.Lists.{All}
use Rattle.theory.proofs.Verdicts.{accepted_all, all_accepted, all_pass_parts, all_pass_both, output_given}
use Rattle.theory.proofs.Outputs.{Slot, slot, AllLeft, slot_left, slots_made}
use Rattle.theory_rounds.proofs.Answers.{Started, nine_decides}
use Rattle.theory_tables.specs.Tables.{TableSizes, TableAmounts}
use Rattle.theory_tables.proofs.Tables.{lengths-each, table_sizes, sizes_pass, table_amounts_lem, amounts_pass}
use Rattle.theory_tables.proofs.Prepared.{matrix_is_accepted, table_started}
use Rattle.theory_orders.proofs.Orders.{entry_below, undoes, inverse_fresh, inverse_twice, length-inverse}
use Rattle.theory_orders.proofs.PermutedRounds.{PermutedCoefficients, length_permuted, permuted_cell, rounds_permuted}
use Rattle.theory_orders.proofs.PermutedTables.{coefficients_permuted, sheets_permuted, sheets_accepted, sizes_permuted, amounts_permuted, table_back}

-- a table that passes all questions of rearranging, and what is lent beside it
pub record Permutable (t : Table) (order matrices lent : List ℕ) : Type 0 where
  pub sizes : TableSizes t
  pub small : TableAmounts t
  pub list : length order ≡ t.sectors
  pub squares : Each (t.sectors * t.sectors) matrices
  pub slices : Each t.sectors lent
  pub fresh : All (fresh_entry t.sectors order) t.sectors

module _ (t : Table) (order matrices lent : List ℕ) where
  -- what a call knows whose answer is that it was accepted
  pub accepted_known : {r : Report} → r ≡ permute_report t order matrices lent → r.accepted ≡ true → Permutable t order matrices lent
  unfolding permute_report
  accepted_known answer ok =
      let (is-size, (is-lengths, rest)) = accepted_all (permute_checks t order matrices lent) [] (sym (ap (λ (q : Report). q.accepted) answer) ∙ ok) in
      let z = table_sizes t matrices (length order ∷ lent) is-size is-lengths in
      let r = all_pass_parts (table_amounts t) (entries_fresh t.sectors order ∷ []) rest in
      record { sizes = z.0; small = table_amounts_lem t r.0; list = z.2.0; squares = z.1; slices = z.2.1; fresh = r.1.0 }

  -- and the other way round
  permutable_accepted : Permutable t order matrices lent → permute_report t order matrices lent ≡ accepts []
  unfolding permute_report
  permutable_accepted P =
      let s = sizes_pass t matrices (length order ∷ lent) P.sizes P.squares (P.list, P.slices) in
      all_accepted (permute_checks t order matrices lent) []
      (s.0, (s.1, all_pass_both (table_amounts t) (entries_fresh t.sectors order ∷ []) (amounts_pass t P.small) (P.fresh, tt)))

-- two calls that settle after as many rounds, where questions 1, 2, 7 and 8 pass of both, have the same answer
same_answer : (n : ℕ) (d d' : List ℕ) (c e : ℕ → ℕ → ℕ) (limit : ℕ) (s s' : List ℕ) (budget : ℕ) (lent : List ℕ) → Started n d limit s lent → Started n d' limit s' lent
    → settling n e s' budget ≡ settling n c s budget → settling_report n d' e limit s' budget lent ≡ settling_report n d c limit s budget lent
same_answer n d d' c e limit s s' budget lent before after rounds =
    nine_decides n d' e limit s' budget lent after
    ∙ ap (λ (k : ℕ). verdict (single 9 (leb k budget) ∷ []) (k ∷ [])) rounds
    ∙ sym (nine_decides n d c limit s budget lent before)

-- ---- an accepted call
module _ (t : Table) (order : List ℕ) (fresh : All (fresh_entry t.sectors order) t.sectors) where
  abbrev n : ℕ
  n = t.sectors

  abbrev u : Table
  u = permuted_table t order

  abbrev d : List ℕ
  d = domestic_coefficients t

  abbrev d' : List ℕ
  d' = domestic_coefficients u

  moved : PermutedCoefficients n order (at n d) (at n d')
  moved = coefficients_permuted t order fresh

  module _ (ok : SheetsGiven t) where
    abbrev squares : List ℕ
    squares = n * n ∷ n * n ∷ []

    abbrev slices : List ℕ
    slices = n ∷ n ∷ n ∷ []

    given : SheetsGiven u
    given = sheets_accepted t order fresh squares slices ok

    some : 1 ≤ n
    some = (matrix_is_accepted t squares slices ok).some

    -- Theorem, for the reader: production is the old one rearranged, with the same count of rounds
    productions : ProductionsPermuted order t u
    unfolding production_report
    productions =
        let settled = rounds_permuted n order fresh (at n d) (at n d') moved in
        record {
          settled = settled;
          answers = λ budget.
              same_answer n d d' (at n d) (at n d') demand_limit (table_demand t) (table_demand u) budget (n ∷ n ∷ []) (table_started t squares slices ok) (table_started u squares slices given)
              (ap (λ (s : List ℕ). settling n (at n d') s budget) (sheets_permuted t order fresh some).demands ∙ settled.rounds (table_demand t) budget);
        }

    -- and so are prices, down the columns
    prices : PricesPermuted order t u
    unfolding price_report
    prices =
        let settled = rounds_permuted n order fresh (transposed (at n d)) (transposed (at n d')) (λ i j h l. moved j i l h) in
        record {
          settled = settled;
          answers = λ w budget long small.
              same_answer n d d' (transposed (at n d)) (transposed (at n d')) rise_limit w (permuted_column n order w) budget (n ∷ n ∷ [])
              (record { matrix = matrix_is_accepted t squares slices ok; start = long; slices = (refl, (refl, tt)); small = small })
              (record {
                matrix = matrix_is_accepted u squares slices given;
                start = length_permuted n order w;
                slices = (refl, (refl, tt));
                small = λ i h. omega (arith, permuted_cell n order w i h, small (cell order i) (entry_below n order fresh i h));
              })
              (settled.rounds w budget);
        }

-- ---- the way back
module _ (t : Table) (order matrices lent : List ℕ) (P : Permutable t order matrices lent) where
  abbrev back : Undoes t.sectors order (inverse_list t.sectors order)
  back = undoes t.sectors order P.fresh

  -- Theorem, for the reader: by its inverse list the new table is accepted, into slices as long as those of the old one
  returns_accepted : permute_report (permuted_table t order) (inverse_list t.sectors order) (length t.flows ∷ []) (map length t.columns ++ (length order ∷ [])) ≡ accepts []
  returns_accepted =
      permutable_accepted (permuted_table t order) (inverse_list t.sectors order) (length t.flows ∷ []) (map length t.columns ++ (length order ∷ []))
      (record {
        sizes = sizes_permuted t order P.fresh P.sizes;
        small = amounts_permuted t order P.fresh P.small;
        list = length-inverse t.sectors order P.fresh;
        squares = (P.sizes.flows, tt);
        slices = lengths-each t.sectors t.columns (length order ∷ []) P.sizes.columns (P.list, tt);
        fresh = inverse_fresh t.sectors order (inverse_list t.sectors order) back;
      })

-- the record that `permute` takes, from its answer and what it leaves
module _ (n : ℕ) (x f e m v p a order : List ℕ) where
  abbrev t : Table
  t = table_by n x f e m v p a

  pub permuted : {x₀ f₀ e₀ m₀ v₀ p₀ a₀ i₀ x' f' e' m' v' p' a' i' : List ℕ} {r : Report}
      → r ≡ permute_report t order (length x₀ ∷ []) (length f₀ ∷ length e₀ ∷ length m₀ ∷ length v₀ ∷ length p₀ ∷ length a₀ ∷ length i₀ ∷ [])
      → x' ≡ output r (length x₀) (permuted_table t order).flows → f' ≡ output r (length f₀) (column (permuted_table t order) 0) → e' ≡ output r (length e₀) (column (permuted_table t order) 1)
      → m' ≡ output r (length m₀) (column (permuted_table t order) 2) → v' ≡ output r (length v₀) (column (permuted_table t order) 3) → p' ≡ output r (length p₀) (column (permuted_table t order) 4)
      → a' ≡ output r (length a₀) (column (permuted_table t order) 5) → i' ≡ output r (length i₀) (inverse_list n order)
      → Permuted t order (table_by n x₀ f₀ e₀ m₀ v₀ p₀ a₀) i₀ r (table_by n x' f' e' m' v' p' a') i'
  permuted {x₀} {f₀} {e₀} {m₀} {v₀} {p₀} {a₀} {i₀} {x'} {f'} {e'} {m'} {v'} {p'} {a'} {i'} {r} answer is_x is_f is-e is_m is-v is-p is-a is-i =
      record {
        answer = answer;
        flows = is_x;
        columns = slot_left r slots left;
        list = is-i;
        undoes = λ ok. subst⁻¹ (Undoes n order) (inverse ok) (undoes n order (known ok).fresh);
        returns = λ ok.
            let P = known ok in
            let b = undoes n order P.fresh in
            subst⁻¹ (λ (w : Table). Back w i') (whole ok)
            (subst⁻¹ (Back u) (inverse ok)
            (returns_accepted t order matrices lent P, table_back t order (inverse_list n order) b P.sizes, inverse_twice n order (inverse_list n order) b P.list));
        sheets = λ ok sheets-given.
            let fresh = (known ok).fresh in
            subst⁻¹ (λ (w : Table). SheetsGiven w × SheetsPermuted order t w) (whole ok)
            (given t order fresh sheets-given, sheets_permuted t order fresh (some t order fresh sheets-given));
        productions = λ ok sheets-given. subst⁻¹ (ProductionsPermuted order t) (whole ok) (productions t order (known ok).fresh sheets-given);
        prices = λ ok sheets-given. subst⁻¹ (PricesPermuted order t) (whole ok) (prices t order (known ok).fresh sheets-given);
      }
    where
      matrices : List ℕ
      matrices = length x₀ ∷ []

      lent : List ℕ
      lent = length f₀ ∷ length e₀ ∷ length m₀ ∷ length v₀ ∷ length p₀ ∷ length a₀ ∷ length i₀ ∷ []

      known : r.accepted ≡ true → Permutable t order matrices lent
      known = accepted_known t order matrices lent answer

      inverse : r.accepted ≡ true → i' ≡ inverse_list n order
      inverse ok = is-i ∙ output_given r (length i₀) (inverse_list n order) ok

      u : Table
      u = permuted_table t order

      -- the way back, of a table and a list
      Back : Table → List ℕ → Type 0
      Back w i =
          (permute_report w i (length t.flows ∷ []) (map length t.columns ++ (length order ∷ [])) ≡ accepts [])
          × (permuted_table w i ≡ t) × (inverse_list n i ≡ order)

      slots : List Slot
      slots = slot f₀ (column u 0) f' ∷ slot e₀ (column u 1) e' ∷ slot m₀ (column u 2) m' ∷ slot v₀ (column u 3) v' ∷ slot p₀ (column u 4) p' ∷ slot a₀ (column u 5) a' ∷ []

      left : AllLeft r slots
      left = (is_f, (is-e, (is_m, (is-v, (is-p, (is-a, tt))))))

      whole : r.accepted ≡ true → table_by n x' f' e' m' v' p' a' ≡ permuted_table t order
      whole ok = ap₂ (table_of n) (is_x ∙ output_given r (length x₀) u.flows ok) (slots_made r slots left ok)
