-- What `coefficients` promises of its answer and of what it leaves in its outputs. Assumes nothing.
use mathlib.Core.Bool.{true}
use mathlib.Core.List.{List, [], ◌∷◌}
use mathlib.Core.Path.{◌≡◌, sym, ap, ◌∙◌, subst⁻¹}
use Prim.Native.Nat.{ℕ, ◌≤◌}
use lib.ListN.{length}
use Rattle.model.specs.Numbers.{cell}
use Rattle.model.specs.Table.{Table, table_by, input_coefficient, value_added_coefficient, import_coefficient, domestic_coefficient}
use Rattle.model.specs.Checks.{Report, output, demand_limit}
use Rattle.model.specs.Calls.{coefficients_report, input_coefficients, value_added_coefficients, import_coefficients, domestic_coefficients, table_demand}
use Rattle.model.specs.Promises.{AcceptedMatrix}
use Rattle.model.specs.CallContracts.{Derived}
use Rattle.theory.proofs.Verdicts.{output_given}
use Rattle.theory_rounds.proofs.Promises.{accurate}
use Rattle.theory_tables.proofs.Tables.{nearest_shares}
use Rattle.theory_tables.proofs.Prepared.{table_accepted, table_demand_small, matrix_is_accepted}
use Rattle.theory_tables.proofs.Unadjusted.{unadjusted_report_lem, unadjusted_demands_lem}

module _ (n : ℕ) (x final_demand exports imports value_added production adjustment : List ℕ) where
  abbrev t : Table
  t = table_by n x final_demand exports imports value_added production adjustment

  pub derived : {a₀ v₀ m₀ d₀ f₀ a v m d f : List ℕ} {r : Report}
      → r ≡ coefficients_report t (length a₀ ∷ length d₀ ∷ []) (length v₀ ∷ length m₀ ∷ length f₀ ∷ [])
      → a ≡ output r (length a₀) (input_coefficients t) → v ≡ output r (length v₀) (value_added_coefficients t)
      → m ≡ output r (length m₀) (import_coefficients t) → d ≡ output r (length d₀) (domestic_coefficients t)
      → f ≡ output r (length f₀) (table_demand t) → Derived t a₀ v₀ m₀ d₀ f₀ r a v m d f
  unfolding input_coefficients input_coefficient value_added_coefficients value_added_coefficient import_coefficients import_coefficient domestic_coefficients domestic_coefficient
  derived {a₀} {v₀} {m₀} {d₀} {f₀} {a} {v} {m} {d} {f} {r} answer is-a is-v is_m is-d is_f =
      record {
        answer = answer;
        inputs = is-a;
        values = is-v;
        imports = is_m;
        domestic = is-d;
        demands = is_f;
        within_limit = λ ok i h.
            subst⁻¹ (λ (l : List ℕ). cell l i ≤ demand_limit) (is_f ∙ output_given r (length f₀) (table_demand t) ok) (table_demand_small t matrices lent (told ok) i h);
        unadjusted = λ none.
            record {
              answer = answer ∙ ap (λ (g : List ℕ). coefficients_report (table g) matrices lent) none ∙ unadjusted_report_lem n x final_demand exports imports value_added production matrices lent;
              inputs = is-a;
              values = is-v;
              imports = is_m;
              domestic = is-d;
              demands = is_f ∙ ap (output r (length f₀)) (ap (λ (g : List ℕ). table_demand (table g)) none ∙ unadjusted_demands_lem n x final_demand exports imports value_added production);
            };
        shares = λ ok.
            rw (is-a ∙ output_given r (length a₀) (input_coefficients t) ok, is-v ∙ output_given r (length v₀) (value_added_coefficients t) ok, is_m ∙ output_given r (length m₀) (import_coefficients t) ok)
            (nearest_shares t (table_accepted t matrices lent (told ok)).balance);
        accurate = λ ok k y σ.
            accurate (subst⁻¹ (AcceptedMatrix n) (is-d ∙ output_given r (length d₀) (domestic_coefficients t) ok) (matrix_is_accepted t matrices lent (told ok))) σ;
      }
    where
      matrices : List ℕ
      matrices = length a₀ ∷ length d₀ ∷ []

      lent : List ℕ
      lent = length v₀ ∷ length m₀ ∷ length f₀ ∷ []

      table : List ℕ → Table
      table g = table_by n x final_demand exports imports value_added production g

      told : r.accepted ≡ true → (coefficients_report t matrices lent).accepted ≡ true
      told ok = sym (ap (λ (q : Report). q.accepted) answer) ∙ ok
