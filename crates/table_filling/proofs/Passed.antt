-- What the questions up to 6 say of a table, for the sheets that are filled after them. Assumes nothing.
use mathlib.Core.List.{List, [], ◌∷◌}
use mathlib.Core.Path.{◌≡◌, subst⁻¹}
use Prim.Native.Nat.{ℕ, ◌*◌, ◌≤◌, ◌<◌}
use Rattle.std.specs.Prelude.{Result, Ok, length}
use Rattle.model.specs.Numbers.{one, cell}
use Rattle.model.specs.Lent.{table_lent}
use Rattle.model.specs.Checks.{Check, report, verdict}
use Rattle.model.specs.Calls.{table_checks, input_coefficients, import_coefficients}
use Rattle.model.specs.declared.Refusal.{Refusal}
use Rattle.model.specs.declared.Table.{Table}
use Rattle.theory.specs.Slices.{Each}
use Rattle.theory.proofs.Verdicts.{answered_pass}
use Rattle.theory_tables.proofs.Tables.{accepted_table, nearest_shares, inputs_small}
use Rattle.table_balances.specs.Slices.{SlicesLent}
use Rattle.table_balances.proofs.SliceLaws.{slices_lent}

-- what is lent beside it, by the slices of the outputs
module _ (t : Table) (a v m d f : List ℕ) where
  abbrev pub matrices : List ℕ
  matrices = length a ∷ length d ∷ []

  abbrev pub columns : List ℕ
  columns = length v ∷ length m ∷ length f ∷ []

  abbrev pub asked : List Check
  asked = table_checks (table_lent t) matrices columns

  pub record Passed : Type 0 where
    pub lent : SlicesLent t
    pub squares : Each (t.sectors * t.sectors) matrices
    pub slices : Each t.sectors columns
    -- a and m, as they will be filled, are within one
    pub inputs : (l : List ℕ) → l ≡ input_coefficients (table_lent t) → (k : ℕ) → k < t.sectors * t.sectors → cell l k ≤ one
    pub imports : (l : List ℕ) → l ≡ import_coefficients (table_lent t) → (i : ℕ) → i < t.sectors → cell l i ≤ one

  pub passed : {answer : Result Unit Refusal} {u : Unit} → report answer ≡ verdict asked [] → answer ≡ Ok u → Passed
  passed said e =
      let A = accepted_table (table_lent t) matrices columns (answered_pass asked said e) in
      record {
        lent = slices_lent A.sizes A.small;
        squares = A.squares;
        slices = A.slices;
        inputs = λ l is. subst⁻¹ (λ (l : List ℕ). (k : ℕ) → k < t.sectors * t.sectors → cell l k ≤ one) is (inputs_small (table_lent t) A.sizes.some A.balance);
        imports = λ l is. subst⁻¹ (λ (l : List ℕ). (i : ℕ) → i < t.sectors → cell l i ≤ one) is (λ i h. ((nearest_shares (table_lent t) A.balance).imported i h).within_one);
      }
