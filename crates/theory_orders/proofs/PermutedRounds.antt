-- Sectors in another order: coefficients and a start that are rearranged alike settle in the same round, at the same amounts rearranged. For any
-- coefficient function, so for both directions of a sheet. Assumes nothing.
use mathlib.Core.Path.{◌≡◌, refl, sym, ap, ap₂, ◌∙◌, subst, fun_ext}
use mathlib.Core.Bool.{false, not, true≢false}
use mathlib.Core.List.{List}
use Prim.Native.Nat.{ℕ, zero, suc, ◌+◌, ◌*◌, ◌/◌, ◌<◌}
use native.Mathlib.Nat.{le_refl}
use lib.ListN.{length}
use Rattle.model.specs.Numbers.{one, first, cell, same, column_sum, transposed}
use Rattle.model.specs.Rounds.{intermediate, rounds, changes, settling, settled, Settles}
use Rattle.model.specs.Permutation.{inverse_list, fresh_entry, permuted_column}
use Rattle.model.specs.Promises.{RoundsPermuted}
use Rattle.theory.proofs.Sums.{sum_cong}
use Rattle.theory.proofs.Lists.{All, agreed, length-tabulate, cell-tabulate, tabulated, same_equal, equal_same, both_ways}
use Rattle.theory_rounds.proofs.Rounds.{length_round, length_rounds, rounds_cell}
use Rattle.theory_orders.proofs.Orders.{entry_below, sum_permuted, undoes}

-- e has the rows and columns of c in the new order
abbrev pub PermutedCoefficients : (n : ℕ) (order : List ℕ) (c e : ℕ → ℕ → ℕ) → Type 0
PermutedCoefficients n order c e = (k l : ℕ) → k < n → l < n → e k l ≡ c (cell order k) (cell order l)

module _ (n : ℕ) (order : List ℕ) where
  -- a rearranged column has n cells
  pub length_permuted : (s : List ℕ) → length (permuted_column n order s) ≡ n
  length_permuted s = length-tabulate n (λ k. cell s (cell order k))

  pub permuted_cell : (s : List ℕ) (k : ℕ) → k < n → cell (permuted_column n order s) k ≡ cell s (cell order k)
  permuted_cell s k h = cell-tabulate n (λ k. cell s (cell order k)) k h

  module _ (fresh : All (fresh_entry n order) n) (c e : ℕ → ℕ → ℕ) (alike : PermutedCoefficients n order c e) where
    -- a column's sum is that of the old column
    pub column_permuted : (l : ℕ) → l < n → column_sum n e l ≡ column_sum n c (cell order l)
    column_permuted l g =
        sum_cong n {f = transposed e l} {g = λ k. c (cell order k) (cell order l)} (λ k h. alike k l h g)
        ∙ sum_permuted n order fresh (λ i. c i (cell order l))

    intermediate_permuted : (a b : ℕ → ℕ) → ((l : ℕ) → l < n → a l ≡ b (cell order l)) → (k : ℕ) → k < n
        → intermediate n e a k ≡ intermediate n c b (cell order k)
    unfolding intermediate
    intermediate_permuted a b amounts k h =
        ap (λ (w : ℕ). w / one)
        (sum_cong n (λ l g. ap₂ ◌*◌ (alike k l h g) (amounts l g)) ∙ sum_permuted n order fresh (λ j. c (cell order k) j * b j))

    module _ (s : List ℕ) where
      abbrev start : List ℕ
      start = permuted_column n order s

      round_permuted : (k i : ℕ) → i < n → cell (rounds n e start k) i ≡ cell (rounds n c s k) (cell order i)
      unfolding rounds
      round_permuted zero i h = permuted_cell s i h
      round_permuted (suc k) i h =
          rounds_cell n e start k i h
          ∙ ap₂ ◌+◌ (permuted_cell s i h) (intermediate_permuted (cell (rounds n e start k)) (cell (rounds n c s k)) (round_permuted k) i h)
          ∙ sym (rounds_cell n c s k (cell order i) (entry_below n order fresh i h))

      -- as a list
      rounds_are : (k : ℕ) → rounds n e start k ≡ permuted_column n order (rounds n c s k)
      rounds_are k =
          tabulated n n (λ i. cell (rounds n c s k) (cell order i)) (rounds n e start k) (length_rounds n e start (length_permuted s) k) (le_refl n)
          (round_permuted k)

      -- two old sectors' amounts are the same where the new ones are, since every sector is in the list
      back : (a b : List ℕ) → ((i : ℕ) → i < n → cell a (cell order i) ≡ cell b (cell order i)) → (j : ℕ) → j < n → cell a j ≡ cell b j
      back a b equal j h =
          let u = undoes n order fresh in
          subst (λ (i : ℕ). cell a i ≡ cell b i) (u.redo j h) (equal (cell (inverse_list n order) j) (u.places j h))

      same_permuted : (k : ℕ) → same n (rounds n e start (suc k)) (rounds n e start k) ≡ same n (rounds n c s (suc k)) (rounds n c s k)
      same_permuted k =
          both_ways _ _
          (λ q. equal_same n _ _ (back (rounds n c s (suc k)) (rounds n c s k)
          (λ i h. sym (round_permuted (suc k) i h) ∙ same_equal n _ _ q i h ∙ round_permuted k i h)))
          (λ q. equal_same n _ _ (λ i h. round_permuted (suc k) i h ∙ same_equal n _ _ q (cell order i) (entry_below n order fresh i h) ∙ sym (round_permuted k i h)))

      changes_permuted : (k : ℕ) → changes n e start k ≡ changes n c s k
      unfolding changes
      changes_permuted zero = refl
      changes_permuted (suc k) = ap not (same_permuted k)

      settling_permuted : (budget : ℕ) → settling n e start budget ≡ settling n c s budget
      unfolding settling
      settling_permuted budget = ap (first (suc budget)) (fun_ext changes_permuted)

      settled_permuted : (budget : ℕ) → settled n e start budget ≡ permuted_column n order (settled n c s budget)
      unfolding settled
      settled_permuted budget = ap (rounds n e start) (settling_permuted budget) ∙ rounds_are (settling n c s budget)

      module _ (y : List ℕ) where
        forth : (k : ℕ) → Settles n c s k y → Settles n e start k (permuted_column n order y)
        forth k σ =
            record {
              unchanged = changes_permuted k ∙ σ.unchanged;
              earlier = λ j h. changes_permuted j ∙ σ.earlier j h;
              amounts = ap (permuted_column n order) σ.amounts ∙ sym (rounds_are k);
            }

        -- the amounts that the list y must be, of n cells
        amounts_back : (k : ℕ) → length y ≡ n → changes n e start k ≡ false → permuted_column n order y ≡ rounds n e start k → y ≡ rounds n c s k
        unfolding changes rounds
        amounts_back zero long still q = absurd (true≢false still)
        amounts_back (suc k) long still q =
            agreed n n y (rounds n c s (suc k)) long (length_round n c s (rounds n c s k)) (le_refl n)
            (back y (rounds n c s (suc k)) (λ i h. sym (permuted_cell y i h) ∙ ap (λ (l : List ℕ). cell l i) q ∙ round_permuted (suc k) i h))

        back_again : (k : ℕ) → length y ≡ n → Settles n e start k (permuted_column n order y) → Settles n c s k y
        back_again k long σ =
            record {
              unchanged = sym (changes_permuted k) ∙ σ.unchanged;
              earlier = λ j h. sym (changes_permuted j) ∙ σ.earlier j h;
              amounts = amounts_back k long σ.unchanged σ.amounts;
            }

    -- Theorem, for the reader: "the old ones rearranged, with the same count of rounds"
    pub rounds_permuted : RoundsPermuted n order c e
    rounds_permuted =
        record {
          settles = λ s y k long. (forth s y k, back_again s y k long);
          rounds = settling_permuted;
          amounts = settled_permuted;
        }
