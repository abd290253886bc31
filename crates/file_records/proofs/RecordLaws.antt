-- What is computed of every kind of record holds of each: also where a word holds a number for each kind in a digit of 4 bits. Assumes nothing.
use mathlib.Core.Bool.{Bool, true, cond}
use mathlib.Core.Path.{◌≡◌, subst⁻¹}
use Prim.Native.Nat.{ℕ, ◌+◌, ◌*◌, ◌/◌, ◌%◌, ◌^◌, ◌<◌}
use native.Mathlib.Omega.{arith}
use borrow.Author.Tests.{eq-eqb, eqb-true}
use lib.Dec.{eqb}
use lib.ListN.{length}
use Rattle.model.specs.Numbers.{first, cell}
use Rattle.model.specs.Table.{sector_limit}
use Rattle.model.specs.File.{record_lengths, column_words}
use Rattle.theory.proofs.Lists.{first_before}
use Rattle.theory_files.proofs.RecordKinds.{known_kind}

pub each_kind : (p : ℕ → Bool) → first (length record_lengths) p ≡ length record_lengths → (k : ℕ) → k < length record_lengths → p k ≡ true
each_kind p right k h = first_before (length record_lengths) p k (subst⁻¹ (λ (m : ℕ). k < m) right h)

abbrev pub digit : (word k : ℕ) → ℕ
digit word k = word / 2 ^ (4 * k) % 16

-- the lengths of records, and the words of columns
pub length_digit : (word k : ℕ) → k < length record_lengths → first (length record_lengths) (λ i. eqb (digit word i) (cell record_lengths i)) ≡ length record_lengths
    → digit word k ≡ cell record_lengths k
length_digit word k h right = eqb-true _ _ (each_kind (λ i. eqb (digit word i) (cell record_lengths i)) right k h)

abbrev pub column_only : (word : ℕ) → ℕ → Bool
column_only word i = cond (eqb (cell record_lengths i) 6) (eqb (sector_limit + digit word i) (cell column_words i)) true

pub column_digit : (word k : ℕ) → cell record_lengths k ≡ 6 → first (length record_lengths) (column_only word) ≡ length record_lengths
    → sector_limit + digit word k ≡ cell column_words k
column_digit word k e right = eqb-true _ _ (rw (eq-eqb (cell record_lengths k) 6 e) at (each_kind (column_only word) right k (known_kind k (omega arith))))
