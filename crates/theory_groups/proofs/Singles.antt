-- Groups of one sector each, in order, change nothing. Assumes nothing.
use mathlib.Core.List.{List, [], ◌∷◌, map}
use mathlib.Core.Path.{◌≡◌, refl, sym, ap, ap₂, ◌∙◌}
use Prim.Native.Nat.{ℕ, suc, ◌+◌, ◌*◌, ◌^◌, ◌<◌, suc-le-suc}
use native.Mathlib.Nat.{le_refl, zero-add, zero-mul, one-mul, mul-zero, zero-lt-suc}
use lib.ListN.{length}
use Rattle.model.specs.Numbers.{tabulate, cell, matrix, bit}
use Rattle.model.specs.Table.{Table, table_of, flow}
use Rattle.model.specs.Aggregation.{group_total, merged_flow, merged_table}
use Rattle.theory.specs.Slices.{Columns}
use Rattle.theory.proofs.Bits.{bit-same, bit_other}
use Rattle.theory.proofs.Sums.{sum_const, sum-raised}
use Rattle.theory.proofs.Lists.{length-tabulate, cell-tabulate, tabulated}
use Rattle.theory.proofs.Matrices.{matrix_made}
use Rattle.theory_tables.specs.Tables.{TableSizes}

-- the word of sector k alone, and such groups of n sectors
abbrev word : ℕ → ℕ
word k = 1 * 2 ^ k

abbrev pub singles : ℕ → List ℕ
singles n = tabulate n word

-- what such a group has is what its sector has
alone : (n k : ℕ) (f : ℕ → ℕ) → k < n → group_total n (word k) f ≡ f k
unfolding group_total
alone n k f h =
    sum-raised n {f = λ _. 0} {g = λ i. bit (word k) i * f i} k (f k) h
    (λ i _ other. ap (λ (b : ℕ). b * f i) (bit_other k i other) ∙ zero-mul (f i))
    (ap (λ (b : ℕ). b * f k) (bit-same k) ∙ one-mul (f k) ∙ sym (zero-add (f k)))
    ∙ ap (λ (s : ℕ). s + f k) (sum_const n 0 ∙ mul-zero n)
    ∙ zero-add (f k)

module _ (t : Table) (z : TableSizes t) where
  abbrev n : ℕ
  n = t.sectors

  -- by the place of its group
  single : (k : ℕ) (f : ℕ → ℕ) → k < n → group_total n (cell (singles n) k) f ≡ f k
  single k f h = ap (λ (w : ℕ). group_total n w f) (cell-tabulate n word k h) ∙ alone n k f h

  -- the merged table, whatever the number of its sectors is called
  abbrev made : ℕ → Table
  made g = table_of g (matrix g (merged_flow t (singles n))) (map (λ s. tabulate g (λ k. group_total n (cell (singles n) k) (cell s))) t.columns)

  flows_return : matrix n (merged_flow t (singles n)) ≡ t.flows
  flows_return =
      sym (matrix_made n (merged_flow t (singles n)) t.flows z.some z.flows
      (λ i j h l. sym (single i (λ i. group_total n (cell (singles n) j) (flow t i)) h ∙ single j (flow t i) l)))

  columns_return : (ss : List (List ℕ)) → Columns n ss → map (λ s. tabulate n (λ k. group_total n (cell (singles n) k) (cell s))) ss ≡ ss
  columns_return [] c = refl
  columns_return (s ∷ ss) c =
      ap₂ (λ (first : List ℕ) (others : List (List ℕ)). first ∷ others)
      (sym (tabulated n n (λ k. group_total n (cell (singles n) k) (cell s)) s (c 0 (zero-lt-suc (length ss))) (le_refl n) (λ k h. sym (single k (cell s) h))))
      (columns_return ss (λ k h. c (suc k) (suc-le-suc h)))

  -- Theorem, for the reader: merged by single sectors in their order, a table is as it was
  pub singles_return : merged_table t (singles n) ≡ t
  singles_return = ap made (length-tabulate n word) ∙ ap₂ (table_of n) flows_return (columns_return t.columns z.columns)
