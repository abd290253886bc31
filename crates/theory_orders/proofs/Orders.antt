-- A list of n sectors that question 20 lets pass: it has every sector, at one place, so its inverse list undoes it. Assumes nothing.
use mathlib.Core.Path.{◌≡◌, refl, sym, ap, ◌∙◌, subst⁻¹}
use mathlib.Core.Bool.{Bool, not, cond}
use mathlib.Core.List.{List}
use Prim.Native.Nat.{ℕ, ◌*◌, ◌≤◌, ◌<◌}
use native.Mathlib.Nat.{le_refl, mul-one, ne_of_lt}
use native.Mathlib.Omega.{arith}
use native.Mathlib.Decide.{dec_lt}
use borrow.Author.Tests.{eq-eqb, ne_eqb, eqb-true, not-false, lt-ltb, ltb-true}
use lib.Dec.{eqb, ltb}
use lib.ListN.{length}
use Rattle.model.specs.Numbers.{sum, cell}
use Rattle.model.specs.Permutation.{place_of, inverse_list, fresh_entry}
use Rattle.model.specs.Promises.{Undoes}
use Rattle.theory.proofs.Sums.{sum_cong, sum_const, sum_scale, sum_only, sum_swap, sum_tight}
use Rattle.theory.proofs.Lists.{All, and_true, first_fails, first_here, cell-tabulate, length-tabulate, tabulated}

abbrev once : Bool → ℕ
once b = cond b 1 0

-- of the sectors below n one is k
pick : (n : ℕ) (f : ℕ → ℕ) (k : ℕ) → k < n → sum n (λ i. f i * once (eqb k i)) ≡ f k
pick n f k h =
    sum_only n (λ i. f i * once (eqb k i)) k h (λ i _ other. rw (ne_eqb k i other) (omega arith))
    ∙ ap (λ (b : Bool). f k * once b) (eq-eqb k k refl) ∙ mul-one (f k)

-- the first entry that is a sector is that sector, and no entry before it is
module _ (n : ℕ) (order : List ℕ) where
  place_is : (s : ℕ) → place_of n order s < n → cell order (place_of n order s) ≡ s
  place_is s h = eqb-true _ s (not-false _ (first_fails n (λ k. not (eqb (cell order k) s)) h))

  place_here : (s k : ℕ) → k < n → ((j : ℕ) → j < k → cell order j ≡ s → ⊥) → cell order k ≡ s → place_of n order s ≡ k
  place_here s k h before here =
      first_here n (λ k. not (eqb (cell order k) s)) k h (λ j l. ap not (ne_eqb (cell order j) s (before j l))) (ap not (eq-eqb (cell order k) s here))

  module _ (fresh : All (fresh_entry n order) n) where
    pub entry_below : (k : ℕ) → k < n → cell order k < n
    entry_below k h = ltb-true (cell order k) n (and_true (ltb (cell order k) n) _ (fresh k h)).0

    entry_place : (k : ℕ) → k < n → place_of n order (cell order k) ≡ k
    entry_place k h = eqb-true _ k (and_true (ltb (cell order k) n) _ (fresh k h)).1

    -- ---- at how many places a sector is: at one, since it is at most one and there are n entries
    places : ℕ → ℕ
    places s = sum n (λ k. once (eqb (cell order k) s))

    elsewhere : (s k : ℕ) → k < n → (place_of n order s ≡ k → ⊥) → once (eqb (cell order k) s) ≡ 0
    elsewhere s k h other = ap once (ne_eqb (cell order k) s (λ e. other (ap (place_of n order) (sym e) ∙ entry_place k h)))

    nowhere : (s : ℕ) → n ≤ place_of n order s → places s ≡ 0
    unfolding places
    nowhere s far = sum_cong n (λ k h. elsewhere s k h (λ e. omega arith)) ∙ (let z = sum_const n 0 in omega arith)

    places_most : (s : ℕ) → places s ≤ 1
    unfolding places
    places_most s = split (dec_lt (place_of n order s) n)
      where
        split : Dec (place_of n order s < n) → places s ≤ 1
        split (yes h) =
            let e = sum_only n (λ k. once (eqb (cell order k) s)) (place_of n order s) h (elsewhere s) in
            rw (e, place_is s h, eq-eqb s s refl) (le_refl 1)
        split (no h) = let z = nowhere s (omega arith) in omega arith

    all_places : sum n places ≡ n
    unfolding places
    all_places =
        sum_swap n n (λ s k. once (eqb (cell order k) s))
        ∙ sum_cong n (λ k h. sum_cong n (λ s _. omega arith) ∙ pick n (λ _. 1) (cell order k) (entry_below k h))
        ∙ (let e = sum_const n 1 in omega arith)

    one_place : (s : ℕ) → s < n → places s ≡ 1
    one_place s h =
        sym (sum_tight n {f = places} {g = λ _. 1} (λ s _. places_most s) (let e = sum_const n 1 in let a = all_places in omega arith) s h)

    found : (s : ℕ) → s < n → place_of n order s < n
    found s h = split (dec_lt (place_of n order s) n)
      where
        split : Dec (place_of n order s < n) → place_of n order s < n
        split (yes l) = l
        split (no l) = absurd (omega (arith, one_place s h, nowhere s (omega arith)))

    -- Theorem, for the reader: a sum over the sectors is the same in their new order
    pub sum_permuted : (f : ℕ → ℕ) → sum n (λ k. f (cell order k)) ≡ sum n f
    unfolding places
    sum_permuted f =
        sum_cong n (λ k h. sym (pick n f (cell order k) (entry_below k h)))
        ∙ sum_swap n n (λ k s. f s * once (eqb (cell order k) s))
        ∙ sum_cong n (λ s h.
        sum_scale n (f s) (λ k. once (eqb (cell order k) s)) ∙ ap (λ (a : ℕ). f s * a) (one_place s h) ∙ mul-one (f s))

    -- ---- the inverse list
    abbrev inverse : List ℕ
    inverse = inverse_list n order

    inverse-cell : (s : ℕ) → s < n → cell inverse s ≡ place_of n order s
    unfolding inverse_list
    inverse-cell s h = cell-tabulate n (place_of n order) s h

    pub undoes : Undoes n order inverse
    undoes =
        record {
          sectors = entry_below;
          places = λ s h. subst⁻¹ (λ (k : ℕ). k < n) (inverse-cell s h) (found s h);
          undo = λ k h. inverse-cell (cell order k) (entry_below k h) ∙ entry_place k h;
          redo = λ s h. ap (cell order) (inverse-cell s h) ∙ place_is s (found s h);
        }

    pub length-inverse : length inverse ≡ n
    unfolding inverse_list
    length-inverse = length-tabulate n (place_of n order)

-- of lists that undo one another: the first entry of the second that is k is at order(k)
module _ (n : ℕ) (order inverse : List ℕ) (u : Undoes n order inverse) where
  inverse_place : (k : ℕ) → k < n → place_of n inverse k ≡ cell order k
  inverse_place k h =
      let below = u.sectors k h in
      place_here n inverse k (cell order k) below
      (λ s l e. ne_of_lt l (sym (u.redo s (omega arith)) ∙ ap (cell order) e)) (u.undo k h)

  -- so it passes question 20 too, and its own inverse list is the first
  pub inverse_fresh : All (fresh_entry n inverse) n
  inverse_fresh s h =
      let k = cell inverse s in
      rw (lt-ltb k n (u.places s h), eq-eqb (place_of n inverse k) s (inverse_place k (u.places s h) ∙ u.redo s h))

  pub inverse_twice : length order ≡ n → inverse_list n inverse ≡ order
  unfolding inverse_list
  inverse_twice long = sym (tabulated n n (place_of n inverse) order long (le_refl n) (λ k h. sym (inverse_place k h)))
