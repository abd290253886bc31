-- What `aggregate` knows where it accepts, and what it promises. Assumes nothing.
use mathlib.Core.Bool.{true}
use mathlib.Core.List.{List, [], ◌∷◌, ◌++◌}
use mathlib.Core.Path.{◌≡◌, refl, sym, ap, ap₂, ◌∙◌, subst⁻¹}
use Prim.Native.Nat.{ℕ, ◌*◌, ◌/◌, ◌%◌, ◌≤◌}
use native.Mathlib.Nat.{le_refl, le_trans}
use lib.ListN.{length}
use Rattle.model.specs.Numbers.{cell, at}
use Rattle.model.specs.Table.{Table, table_of, table_by, column, exports, adjustment}
use Rattle.model.specs.Checks.{Report, accepts, verdict, output, table_amounts, exports_within, balance_checks, column_sums}
use Rattle.model.specs.Calls.{table_checks, coefficients_report, domestic_coefficients}
use Rattle.model.specs.Aggregation.{group_total, group_sizes, merged_flow, merged_table, partitioned, merged_within, aggregate_checks, aggregate_report}
use Rattle.model.specs.Promises.{SameTotals}
use Rattle.model.specs.CallContracts.{Aggregated}
use Rattle.theory.specs.Slices.{Each}
use Rattle.theory.proofs.Lists.{length-tabulate, made_columns_lem, from_one}
use Rattle.theory.proofs.Verdicts.{AllPass, accepted_all, all_accepted, all_pass_parts, pass_on, output_given, sized, size_passes}
use Rattle.theory.proofs.Outputs.{Slot, slot, AllLeft, slot_left, slots_made}
use Rattle.theory_tables.specs.Tables.{TableAmounts}
use Rattle.theory_tables.proofs.Tables.{Accepted, table_sizes, table_amounts_lem, balanced, table_passes}
use Rattle.theory_groups.proofs.Partitions.{Partition, partition, sizes_sum}
use Rattle.theory_groups.proofs.Merging.{same_totals}
use Rattle.theory_groups.proofs.Limits.{merged_balanced}

module _ (n : ℕ) (x f e m v p a groups : List ℕ) where
  abbrev t : Table
  t = table_by n x f e m v p a

  abbrev u : Table
  u = merged_table t groups

  abbrev g : ℕ
  g = length groups

  -- a table that passes all questions of merging, and what is lent beside it
  pub record Mergeable (matrices lent : List ℕ) : Type 0 where
    pub table : Accepted t [] []
    pub some : 1 ≤ g
    pub few : g ≤ n
    pub squares : Each (g * g) matrices
    pub slices : Each g lent
    pub parts : Partition n groups
    pub small : TableAmounts u

  module _ (matrices lent : List ℕ) where
    mergeable : AllPass (aggregate_checks t groups matrices lent) → Mergeable matrices lent
    mergeable (is-size, (is-lengths, (is-count, (is-lent, rest)))) =
        let z = table_sizes t [] [] is-size is-lengths in
        let count = from_one g n (is-count 0 (le_refl 1)) in
        let s = sized g matrices lent (size_passes g matrices lent count.0 (le_trans count.1 z.0.few)) is-lent in
        let r = all_pass_parts (table_amounts t) (balance_checks t ++ (partitioned t groups ∷ merged_within t groups ∷ [])) rest in
        let b = all_pass_parts (balance_checks t) (partitioned t groups ∷ merged_within t groups ∷ []) r.1 in
        let sixteenth = exports_within u.sectors (exports u) (adjustment u) ∷ [] in
        record {
          table = record { sizes = z.0; small = table_amounts_lem t r.0; balance = balanced t b.0; squares = tt; slices = tt };
          some = count.0;
          few = count.1;
          squares = s.squares;
          slices = s.slices;
          parts = partition t groups b.1.0;
          small = table_amounts_lem u (all_pass_parts (table_amounts u) sixteenth (accepted_all (table_amounts u ++ sixteenth) [] (b.1.1.0 0 (le_refl 1)))).0;
        }

    -- what a call knows whose answer is that it was accepted
    pub accepted_known : {r : Report} → r ≡ aggregate_report t groups matrices lent → r.accepted ≡ true → Mergeable matrices lent
    unfolding aggregate_report
    accepted_known answer ok =
        mergeable (accepted_all (aggregate_checks t groups matrices lent) [] (sym (ap (λ (q : Report). q.accepted) answer) ∙ ok))

    module _ (M : Mergeable matrices lent) where
      -- the merged table passes questions 1 to 6 and 16, with any slices of the right lengths beside it
      merged_accepted : (squares slices : List ℕ) → Each (g * g) squares → Each g slices → Accepted u squares slices
      merged_accepted squares slices is-squares is-slices =
          record {
            sizes = record {
              some = M.some;
              few = le_trans M.few M.table.sizes.few;
              flows = length-tabulate (g * g) (λ k. merged_flow t groups (k / g) (k % g));
              columns = made_columns_lem g (λ s k. group_total n (cell groups k) (cell s)) t.columns;
            };
            small = M.small;
            balance = merged_balanced n x f e m v p a groups M.parts.once M.some M.table.balance M.small;
            squares = is-squares;
            slices = is-slices;
          }

      -- Theorem, for the reader: so it is accepted by these questions, and sheets from it are refused by 7 alone
      merged_passes : verdict (table_checks u [] []) [] ≡ accepts []
      merged_passes = all_accepted (table_checks u [] []) [] (table_passes u [] [] (merged_accepted [] [] tt tt))

      merged_seventh : coefficients_report u (g * g ∷ g * g ∷ []) (g ∷ g ∷ g ∷ []) ≡ verdict (column_sums g (at g (domestic_coefficients u)) ∷ []) []
      unfolding coefficients_report
      merged_seventh =
          pass_on (table_checks u (g * g ∷ g * g ∷ []) (g ∷ g ∷ g ∷ [])) (column_sums g (at g (domestic_coefficients u)) ∷ []) []
          (table_passes u (g * g ∷ g * g ∷ []) (g ∷ g ∷ g ∷ []) (merged_accepted (g * g ∷ g * g ∷ []) (g ∷ g ∷ g ∷ []) (refl, (refl, tt)) (refl, (refl, (refl, tt)))))

  -- the record that `aggregate` takes, from its answer and what it leaves
  pub aggregated : {x₀ f₀ e₀ m₀ v₀ p₀ a₀ s₀ x' f' e' m' v' p' a' s' : List ℕ} {r : Report}
      → r ≡ aggregate_report t groups (length x₀ ∷ []) (length f₀ ∷ length e₀ ∷ length m₀ ∷ length v₀ ∷ length p₀ ∷ length a₀ ∷ length s₀ ∷ [])
      → x' ≡ output r (length x₀) u.flows → f' ≡ output r (length f₀) (column u 0) → e' ≡ output r (length e₀) (column u 1)
      → m' ≡ output r (length m₀) (column u 2) → v' ≡ output r (length v₀) (column u 3) → p' ≡ output r (length p₀) (column u 4)
      → a' ≡ output r (length a₀) (column u 5) → s' ≡ output r (length s₀) (group_sizes n groups)
      → Aggregated t groups (table_by g x₀ f₀ e₀ m₀ v₀ p₀ a₀) s₀ r (table_by g x' f' e' m' v' p' a') s'
  aggregated {x₀} {f₀} {e₀} {m₀} {v₀} {p₀} {a₀} {s₀} {x'} {f'} {e'} {m'} {v'} {p'} {a'} {s'} {r} answer is_x is_f is-e is_m is-v is-p is-a is-s =
      record {
        answer = answer;
        flows = is_x;
        columns = slot_left r slots left;
        took = is-s;
        passes = λ ok. subst⁻¹ (λ (w : Table). verdict (table_checks w [] []) [] ≡ accepts []) (whole ok) (merged_passes matrices lent (known ok));
        seventh = λ ok.
            subst⁻¹ (λ (w : Table). coefficients_report w (g * g ∷ g * g ∷ []) (g ∷ g ∷ g ∷ []) ≡ verdict (column_sums g (at g (domestic_coefficients w)) ∷ []) [])
            (whole ok) (merged_seventh matrices lent (known ok));
        totals = λ ok. subst⁻¹ (SameTotals t) (whole ok) (same_totals t groups (known ok).parts.once);
        every = λ ok. rw (is-s ∙ output_given r (length s₀) (group_sizes n groups) ok) (sizes_sum n groups (known ok).parts);
      }
    where
      matrices : List ℕ
      matrices = length x₀ ∷ []

      lent : List ℕ
      lent = length f₀ ∷ length e₀ ∷ length m₀ ∷ length v₀ ∷ length p₀ ∷ length a₀ ∷ length s₀ ∷ []

      known : r.accepted ≡ true → Mergeable matrices lent
      known = accepted_known matrices lent answer

      slots : List Slot
      slots = slot f₀ (column u 0) f' ∷ slot e₀ (column u 1) e' ∷ slot m₀ (column u 2) m' ∷ slot v₀ (column u 3) v' ∷ slot p₀ (column u 4) p' ∷ slot a₀ (column u 5) a' ∷ []

      left : AllLeft r slots
      left = (is_f, (is-e, (is_m, (is-v, (is-p, (is-a, tt))))))

      whole : r.accepted ≡ true → table_by g x' f' e' m' v' p' a' ≡ u
      whole ok = ap₂ (table_of g) (is_x ∙ output_given r (length x₀) u.flows ok) (slots_made r slots left ok)
