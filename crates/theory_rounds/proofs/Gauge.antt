-- A gauge measures amounts over the sectors by one number and shrinks under a round: the total, where columns are bounded (production),
-- and the largest, where rows are (prices). What follows from the bound 950,000 is proved once, for any gauge. Assumes nothing.
use mathlib.Core.Path.{◌≡◌, ◌∙◌}
use Prim.Native.Nat.{ℕ, ◌+◌, ◌*◌, ◌≤◌, ◌<◌}
use native.Mathlib.Omega.{arith}
use native.Mathlib.Nat.{le_refl, le_trans, le_of_eq, add-le-add, mul-le-mul_left, mul_comm}
use Rattle.model.specs.Numbers.{largest, one, sum, transposed}
use Rattle.model.specs.Rounds.{product, weighted}
use Rattle.model.specs.Checks.{column_limit}
use Rattle.model.specs.Promises.{LowColumns}
use Rattle.theory.proofs.Sums.{sum_mono, sum_cong, sum_add, sum_const, sum_most, sum_scale, sum-cell, sum_swap, largest_le, largest-cell, largest_scale}

-- N measures amounts over n sectors; u is what it gives for 1 in every sector
pub record Gauge (n : ℕ) (c : ℕ → ℕ → ℕ) (N : (ℕ → ℕ) → ℕ) (u : ℕ) : Type 0 where
  pub mono : (f g : ℕ → ℕ) → ((i : ℕ) → i < n → f i ≤ g i) → N f ≤ N g
  pub join : (f g : ℕ → ℕ) → N (λ i. f i + g i) ≤ N f + N g
  pub scale : (f : ℕ → ℕ) → N (λ i. one * f i) ≡ one * N f
  pub flat : (a : ℕ) → N (λ i. a) ≤ u * a
  pub cells : (f : ℕ → ℕ) (i : ℕ) → i < n → f i ≤ N f
  pub total : (f : ℕ → ℕ) → u * sum n f ≤ n * N f
  pub shrinks : (f : ℕ → ℕ) → N (weighted n c f) ≤ column_limit * N f

module _ (n : ℕ) (c : ℕ → ℕ → ℕ) (low : LowColumns n c) where
  -- the total of all weighted sums is a sum over the columns
  columns_weighted : (f : ℕ → ℕ) → sum n (weighted n c f) ≤ column_limit * sum n f
  columns_weighted f =
      le_trans (le_of_eq (sum_swap n n (product c f) ∙ sum_cong n (λ j h. column j)))
      (le_trans (sum_mono n (λ j h. mul-le-mul_left (f j) (low j h)))
      (le_of_eq (sum_cong n (λ j h. mul_comm (f j) column_limit) ∙ sum_scale n column_limit f)))
    where
      column : (j : ℕ) → sum n (λ i. c i j * f j) ≡ f j * sum n (transposed c j)
      column j = sum_cong n (λ i h. mul_comm (c i j) (f j)) ∙ sum_scale n (f j) (transposed c j)

  -- the total is a gauge for a matrix whose columns are bounded
  pub total_gauge : Gauge n c (sum n) n
  total_gauge =
      record {
        mono = λ f g p. sum_mono n p;
        join = λ f g. le_of_eq (sum_add n f g);
        scale = sum_scale n one;
        flat = λ a. le_of_eq (sum_const n a);
        cells = sum-cell n;
        total = λ f. le_refl (n * sum n f);
        shrinks = columns_weighted;
      }

  rows-weighted : (f : ℕ → ℕ) (i : ℕ) → i < n → weighted n (transposed c) f i ≤ column_limit * largest n f
  rows-weighted f i h =
      le_trans (sum_mono n (λ j k. mul-le-mul_left (c j i) (largest-cell n f j k)))
      (le_trans (le_of_eq (sum_cong n (λ j k. mul_comm (c j i) (largest n f)) ∙ sum_scale n (largest n f) (transposed c i)))
      (le_trans (mul-le-mul_left (largest n f) (low i h)) (le_of_eq (mul_comm (largest n f) column_limit))))

  -- the largest is one for the same matrix transposed
  pub largest_gauge : Gauge n (transposed c) (largest n) 1
  largest_gauge =
      record {
        mono = λ f g p. largest_le n (λ i h. le_trans (p i h) (largest-cell n g i h));
        join = λ f g. largest_le n (λ i h. add-le-add (largest-cell n f i h) (largest-cell n g i h));
        scale = largest_scale n;
        flat = λ a. largest_le n (λ i h. omega arith);
        cells = largest-cell n;
        total = λ f. omega (arith, sum_most n (largest n f) (largest-cell n f));
        shrinks = λ f. largest_le n (rows-weighted f);
      }

-- amounts that are at most t and what they pass on: 50,000 millionths of them are at most t
pub bounded : (n : ℕ) (c : ℕ → ℕ → ℕ) (N : (ℕ → ℕ) → ℕ) (u : ℕ) → Gauge n c N u → (t g : ℕ → ℕ)
    → ((i : ℕ) → i < n → one * g i ≤ t i + weighted n c g i) → 50000 * N g ≤ N t
bounded n c N u γ t g p =
    omega (arith, γ.scale g, γ.mono (λ i. one * g i) (λ i. t i + weighted n c g i) p, γ.join t (weighted n c g), γ.shrinks g)
