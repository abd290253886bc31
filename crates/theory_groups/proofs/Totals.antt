-- What the sectors of a group have together, and of groups that every sector is in exactly one of. Assumes nothing.
use mathlib.Core.List.{List}
use mathlib.Core.Path.{◌≡◌, ap, ◌∙◌}
use Prim.Native.Nat.{ℕ, ◌+◌, ◌*◌, ◌≤◌, ◌<◌}
use native.Mathlib.Nat.{mul_comm, mul-one, mul-zero, mul-add, mul-le-mul_left, le_trans}
use lib.ListN.{length}
use Rattle.model.specs.Numbers.{sum, cell, bit, column_sum, all_cells}
use Rattle.model.specs.Aggregation.{group_total, group_count}
use Rattle.theory.proofs.Bits.{bit_takes}
use Rattle.theory.proofs.Sums.{sum_mono, sum_cong, sum_add, sum_scale, sum_swap, sum_const, sum_most}

-- ---- one group
module _ (n w : ℕ) where
  pub total_cong : {f h : ℕ → ℕ} → ((i : ℕ) → i < n → f i ≡ h i) → group_total n w f ≡ group_total n w h
  unfolding group_total
  total_cong p = sum_cong n (λ i l. ap (λ (a : ℕ). bit w i * a) (p i l))

  pub total_mono : {f h : ℕ → ℕ} → ((i : ℕ) → i < n → f i ≤ h i) → group_total n w f ≤ group_total n w h
  unfolding group_total
  total_mono p = sum_mono n (λ i l. mul-le-mul_left (bit w i) (p i l))

  pub total_add : (f h : ℕ → ℕ) → group_total n w (λ i. f i + h i) ≡ group_total n w f + group_total n w h
  unfolding group_total
  total_add f h = sum_cong n (λ i l. mul-add (bit w i) (f i) (h i)) ∙ sum_add n (λ i. bit w i * f i) (λ i. bit w i * h i)

  -- sums of what they have together, and what they have together of sums
  total_sum : (m : ℕ) (f : ℕ → ℕ → ℕ) → sum m (λ l. group_total n w (λ i. f i l)) ≡ group_total n w (λ i. sum m (f i))
  unfolding group_total
  total_sum m f = sum_swap m n (λ l i. bit w i * f i l) ∙ sum_cong n (λ i h. sum_scale m (bit w i) (f i))

  -- what sectors of at most b have together
  pub total_most : (b : ℕ) {f : ℕ → ℕ} → ((i : ℕ) → i < n → f i ≤ b) → group_total n w f ≤ n * b
  unfolding group_total
  total_most b {f} p = sum_most n b (λ i h. le_trans (bit_takes w i (f i)) (p i h))

  -- of sectors that have nothing
  pub total_none : group_total n w (λ _. 0) ≡ 0
  unfolding group_total
  total_none = sum_cong n {g = λ _. 0} (λ i _. mul-zero (bit w i)) ∙ sum_const n 0 ∙ mul-zero n

-- ---- every sector is in exactly one group
abbrev pub Once : (n : ℕ) (groups : List ℕ) → Type 0
Once n groups = (i : ℕ) → i < n → group_count groups i ≡ 1

module _ (n : ℕ) (groups : List ℕ) (once : Once n groups) where
  -- what a group has together, by its place
  abbrev grouped : (ℕ → ℕ) → ℕ → ℕ
  grouped f k = group_total n (cell groups k) f

  -- all groups together have what all sectors have
  pub total_kept : (f : ℕ → ℕ) → sum (length groups) (grouped f) ≡ sum n f
  unfolding group_total
  total_kept f =
      sum_swap (length groups) n (λ k i. bit (cell groups k) i * f i)
      ∙ sum_cong n
      (λ i h.
      sum_cong (length groups) (λ k l. mul_comm (bit (cell groups k) i) (f i))
      ∙ sum_scale (length groups) (f i) (λ k. bit (cell groups k) i)
      ∙ ap (λ (a : ℕ). f i * a) (once i h)
      ∙ mul-one (f i))

  module _ (x : ℕ → ℕ → ℕ) where
    -- rows and columns merged
    abbrev both : ℕ → ℕ → ℕ
    both k l = grouped (λ i. grouped (x i) l) k

    -- what is sold by a group to all groups, and bought by a group of all groups
    pub row_kept : (k : ℕ) → sum (length groups) (both k) ≡ grouped (λ i. sum n (x i)) k
    row_kept k =
        total_sum n (cell groups k) (length groups) (λ i l. grouped (x i) l)
        ∙ total_cong n (cell groups k) (λ i h. total_kept (x i))

    pub column_kept : (l : ℕ) → sum (length groups) (λ k. both k l) ≡ grouped (column_sum n x) l
    column_kept l = total_kept (λ i. grouped (x i) l) ∙ total_sum n (cell groups l) n (λ j i. x i j)

    pub flows_kept : all_cells (length groups) both ≡ all_cells n x
    flows_kept = sum_cong (length groups) (λ l h. column_kept l) ∙ total_kept (column_sum n x)
