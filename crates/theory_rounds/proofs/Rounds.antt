-- Rounds never fall, stay below whatever a round does not lift, and below every exact balance; what settled amounts satisfy. For any
-- coefficient function, so for both directions of a matrix. Assumes nothing.
use mathlib.Core.Path.{◌≡◌, sym, ◌∙◌, ap, subst⁻¹}
use mathlib.Core.Logic.{◌↔◌}
use mathlib.Core.Bool.{Bool, true, false, cond, true≢false}
use mathlib.Core.List.{List}
use Prim.Native.Nat.{ℕ, zero, suc, ◌+◌, ◌*◌, ◌-◌, ◌/◌, ◌≤◌, ◌<◌, zero-le}
use native.Mathlib.Omega.{arith}
use native.Mathlib.Nat.{le_refl, le_trans, le_of_eq, le_antisymm, mul-le-mul_left, mul-le-mul_right, mul_comm, mul_left_comm, le-div_iff_mul-le, mul-div-le, mul-add, sub-add_cancel}
use borrow.Author.Tests.{not-false}
use lib.Dec.{eqb}
use lib.ListN.{length, get_or}
use lib.IntN.{ℤ, pos, sub_ℕ}
use Rattle.model.specs.Numbers.{signed, one, sum, tabulate, cell, same}
use Rattle.model.specs.Rounds.{product, weighted, intermediate, round, rounds, changes, Settles, ExactBalance, implied_demand, unit}
use Rattle.model.specs.Promises.{Equal}
use Rattle.model.specs.Unsigned.{unsigned_demand}
use Rattle.theory.proofs.Sums.{sum_mono, sum_cong, sum_add, sum_scale}
use Rattle.theory.proofs.Lists.{length-tabulate, made_tabulate, cell-tabulate, agreed_of, same_equal}
use Rattle.theory.proofs.Signed.{difference_is, length-signed, cell-signed}

module _ (n : ℕ) (c : ℕ → ℕ → ℕ) where
  -- ---- weighted sums
  pub weighted_cong : {f g : ℕ → ℕ} → ((j : ℕ) → j < n → f j ≡ g j) → (i : ℕ) → weighted n c f i ≡ weighted n c g i
  weighted_cong p i = sum_cong n (λ j h. ap (λ (a : ℕ). c i j * a) (p j h))

  pub weighted_mono : {f g : ℕ → ℕ} → ((j : ℕ) → j < n → f j ≤ g j) → (i : ℕ) → weighted n c f i ≤ weighted n c g i
  weighted_mono p i = sum_mono n (λ j h. mul-le-mul_left (c i j) (p j h))

  pub weighted_add : (f g : ℕ → ℕ) (i : ℕ) → weighted n c (λ j. f j + g j) i ≡ weighted n c f i + weighted n c g i
  weighted_add f g i = sum_cong n (λ j h. mul-add (c i j) (f j) (g j)) ∙ sum_add n (product c f i) (product c g i)

  pub weighted_scale : (q : ℕ) (f : ℕ → ℕ) (i : ℕ) → weighted n c (λ j. q * f j) i ≡ q * weighted n c f i
  weighted_scale q f i = sum_cong n (λ j h. mul_left_comm (c i j) q (f j)) ∙ sum_scale n q (product c f i)

  -- coefficients within one take no more than the whole of every amount
  pub weighted_shares : (f : ℕ → ℕ) (i : ℕ) → ((j : ℕ) → j < n → c i j ≤ one) → weighted n c f i ≤ one * sum n f
  weighted_shares f i p = le_trans (sum_mono n (λ j h. mul-le-mul_right (f j) (p j h))) (le_of_eq (sum_scale n one f))

  -- ---- the quotient: all that is used of it
  pub intermediate_cong : {f g : ℕ → ℕ} → ((j : ℕ) → j < n → f j ≡ g j) → (i : ℕ) → intermediate n c f i ≡ intermediate n c g i
  unfolding intermediate
  intermediate_cong p i = ap (λ (w : ℕ). w / one) (weighted_cong p i)

  pub intermediate_mono : {f g : ℕ → ℕ} → ((j : ℕ) → j < n → f j ≤ g j) → (i : ℕ) → intermediate n c f i ≤ intermediate n c g i
  unfolding intermediate
  intermediate_mono p i = omega (arith, weighted_mono p i)

  pub intermediate-within : (f : ℕ → ℕ) (i : ℕ) → one * intermediate n c f i ≤ weighted n c f i
  unfolding intermediate
  intermediate-within f i = omega arith

  -- rounding down once loses less than one
  pub intermediate_lost : (f : ℕ → ℕ) (i : ℕ) → weighted n c f i ≤ one * intermediate n c f i + (one - 1)
  unfolding intermediate
  intermediate_lost f i = omega arith

  -- where the amounts rise it rises by no more than what is passed on of the rise, and what rounding down loses
  pub intermediate_apart : {f g : ℕ → ℕ} → ((j : ℕ) → j < n → f j ≤ g j) → (i : ℕ)
      → one * intermediate n c g i ≤ one * intermediate n c f i + (one - 1) + weighted n c (λ j. g j - f j) i
  intermediate_apart {f} {g} p i =
      omega (
        arith,
        intermediate-within g i,
        intermediate_lost f i,
        weighted_cong (λ j l. sym (sub-add_cancel (p j l))) i,
        weighted_add (λ j. g j - f j) f i,
      )

  -- y is what a round from s makes of y
  abbrev pub Fixed : List ℕ → List ℕ → Type 0
  Fixed s y = (i : ℕ) → i < n → cell y i ≡ cell s i + intermediate n c (cell y) i

  module _ (s : List ℕ) where
    -- ---- rounds
    pub round_cell : (y : List ℕ) (i : ℕ) → i < n → cell (round n c s y) i ≡ cell s i + intermediate n c (cell y) i
    unfolding round
    round_cell y i h = cell-tabulate n (λ i. cell s i + intermediate n c (cell y) i) i h

    pub length_round : (y : List ℕ) → length (round n c s y) ≡ n
    unfolding round
    length_round y = length-tabulate n (λ i. cell s i + intermediate n c (cell y) i)

    pub length_rounds : length s ≡ n → (k : ℕ) → length (rounds n c s k) ≡ n
    unfolding rounds
    length_rounds e zero = e
    length_rounds e (suc k) = length_round (rounds n c s k)

    pub rounds_cell : (k i : ℕ) → i < n → cell (rounds n c s (suc k)) i ≡ cell s i + intermediate n c (cell (rounds n c s k)) i
    unfolding rounds
    rounds_cell k i h = round_cell (rounds n c s k) i h

    -- no round falls
    pub rising : (k i : ℕ) → i < n → cell (rounds n c s k) i ≤ cell (rounds n c s (suc k)) i
    unfolding rounds
    rising zero i h = omega (arith, rounds_cell 0 i h)
    rising (suc k) i h =
        omega (arith, rounds_cell k i h, rounds_cell (suc k) i h, intermediate_mono (rising k) i)

    pub rising_from : (k : ℕ) (y : List ℕ) → y ≡ rounds n c s k → (i : ℕ) → i < n → cell y i ≤ cell (round n c s y) i
    unfolding rounds
    rising_from k y e i h = rw e (rising k i h)

    pub above_start : (k i : ℕ) → i < n → cell s i ≤ cell (rounds n c s k) i
    unfolding rounds
    above_start zero i h = le_refl (cell s i)
    above_start (suc k) i h = omega (arith, rounds_cell k i h)

    -- amounts that a round does not lift are above every round
    pub least : (z : ℕ → ℕ) → ((i : ℕ) → i < n → cell s i + intermediate n c z i ≤ z i) → (k i : ℕ) → i < n → cell (rounds n c s k) i ≤ z i
    unfolding rounds
    least z p zero i h = omega (arith, p i h)
    least z p (suc k) i h = omega (arith, p i h, rounds_cell k i h, intermediate_mono (least z p k) i)

    -- nowhere too high: the whole part of an exact balance is such an amount
    pub nowhere_too_high_lem : (q : ℕ) (b : ℕ → ℕ) → ExactBalance n c s q b → (k i : ℕ) → i < n → q * cell (rounds n c s k) i ≤ b i
    nowhere_too_high_lem q b β k i h =
        rw mul_comm ((le-div_iff_mul-le β.divisor).0 (least z lifted k i h))
      where
        z : ℕ → ℕ
        z j = b j / q

        lifted : (j : ℕ) → j < n → cell s j + intermediate n c z j ≤ z j
        lifted j l =
            (le-div_iff_mul-le β.divisor).1
            (omega (
              arith,
              β.balance j l,
              weighted_scale q z j,
              weighted_mono {f = λ i. q * z i} {g = b} (λ i _. mul-div-le (b i) q) j,
              mul-le-mul_left q (intermediate-within z j),
            ))

    -- a round that changes no sector: the amounts after it are what a round makes of them
    pub fixed : (k : ℕ) → changes n c s k ≡ false → Fixed s (rounds n c s k)
    unfolding changes
    fixed zero e = absurd (true≢false e)
    fixed (suc k) e =
        let p = same_equal n (rounds n c s (suc k)) (rounds n c s k) (not-false (same n (rounds n c s (suc k)) (rounds n c s k)) e) in
        λ i h. rounds_cell k i h ∙ ap (λ (w : ℕ). cell s i + w) (intermediate_cong (λ j l. sym (p j l)) i)

  -- ---- settled amounts
  pub settles_fixed : {s y : List ℕ} {k : ℕ} → Settles n c s k y → Fixed s y
  settles_fixed {s} {y} {k} σ = subst⁻¹ (Fixed s) σ.amounts (fixed s k σ.unchanged)

  pub settles-length : {s y : List ℕ} {k : ℕ} → length s ≡ n → Settles n c s k y → length y ≡ n
  settles-length {s} {y} {k} e σ = ap length σ.amounts ∙ length_rounds s e k

  -- they are nowhere above amounts that a round from the same start does not lift
  pub lowest : {s y : List ℕ} {k : ℕ} → Settles n c s k y → (z : ℕ → ℕ) → ((i : ℕ) → i < n → cell s i + intermediate n c z i ≤ z i)
      → (i : ℕ) → i < n → cell y i ≤ z i
  lowest {s} {y} {k} σ z p i h = subst⁻¹ (λ (r : List ℕ). cell r i ≤ z i) σ.amounts (least s z p k i h)

  -- amounts settled from a lower start are nowhere higher
  pub ordered : {s y t z : List ℕ} {k m : ℕ} → ((i : ℕ) → i < n → cell s i ≤ cell t i) → Settles n c s k y → Settles n c t m z
      → (i : ℕ) → i < n → cell y i ≤ cell z i
  ordered {s} {y} {t} {z} p σ τ = lowest σ (cell z) (λ j l. omega (arith, p j l, settles_fixed τ j l))

  -- settled amounts are equal in every sector exactly when the starts are
  pub equal_starts : {s y t z : List ℕ} {k m : ℕ} → Settles n c s k y → Settles n c t m z → Equal n y z ↔ Equal n s t
  equal_starts {s} {y} {t} {z} σ τ = (starts, amounts)
    where
      amounts : Equal n s t → Equal n y z
      amounts e i h =
          le_antisymm (ordered (λ j l. le_of_eq (e j l)) σ τ i h) (ordered (λ j l. le_of_eq (sym (e j l))) τ σ i h)

      starts : Equal n y z → Equal n s t
      starts e i h =
          omega (arith, e i h, settles_fixed σ i h, settles_fixed τ i h, intermediate_cong e i)

  -- ---- backwards
  abbrev left : List ℕ → ℕ → ℤ
  left y i = sub_ℕ (cell y i) (intermediate n c (cell y) i)

  implied_cell : (y : List ℕ) (i : ℕ) → i < n → get_or (implied_demand n c y) i (pos 0) ≡ left y i
  unfolding implied_demand
  implied_cell y i h = made_tabulate (pos 0) n (left y) i h

  length_implied : (y : List ℕ) → length (implied_demand n c y) ≡ n
  unfolding implied_demand
  length_implied y = length-tabulate n (left y)

  -- the demand behind y is g, 0 or above in every sector, exactly where y is what a round from g makes of it
  pub implied_fixed : (y g : List ℕ) → implied_demand n c y ≡ signed g → Fixed g y
  implied_fixed y g e i h =
      (difference_is (cell y i) (intermediate n c (cell y) i) (cell g i)).0
      (sym (implied_cell y i h) ∙ ap (λ (l : List ℤ). get_or l i (pos 0)) e ∙ cell-signed g i)

  pub fixed_implied : (y g : List ℕ) → length g ≡ n → Fixed g y → implied_demand n c y ≡ signed g
  fixed_implied y g e p =
      agreed_of (pos 0) n n (implied_demand n c y) (signed g) (length_implied y) (length-signed g ∙ e) (le_refl n)
      (λ i h. implied_cell y i h ∙ (difference_is (cell y i) (intermediate n c (cell y) i) (cell g i)).1 (p i h) ∙ sym (cell-signed g i))

  -- so forward and then back returns the start
  pub forward_back : {s y : List ℕ} {k : ℕ} → length s ≡ n → Settles n c s k y → implied_demand n c y ≡ signed s
  forward_back {s} {y} e σ = fixed_implied y s e (settles_fixed σ)

  -- and where no sector is short it is the demand of document 01's call
  pub unsigned_implied : (y : List ℕ) → ((i : ℕ) → i < n → intermediate n c (cell y) i ≤ cell y i) → implied_demand n c y ≡ signed (unsigned_demand n c y)
  unfolding unsigned_demand
  unsigned_implied y p =
      let rest : ℕ → ℕ = λ i. cell y i - intermediate n c (cell y) i in
      fixed_implied y (tabulate n rest) (length-tabulate n rest) (λ i h. omega (arith, p i h, cell-tabulate n rest i h))

-- ---- the start of an inverse column
module _ (n j : ℕ) where
  pub unit-cell : (i : ℕ) → i < n → cell (unit n j) i ≡ cond (eqb i j) one 0
  unfolding unit
  unit-cell i h = cell-tabulate n (λ i. cond (eqb i j) one 0) i h

  pub unit_small : (i : ℕ) → i < n → cell (unit n j) i ≤ one
  unit_small i h = subst⁻¹ (λ (a : ℕ). a ≤ one) (unit-cell i h) (within (eqb i j))
    where
      within : (b : Bool) → cond b one 0 ≤ one
      within true = le_refl one
      within false = zero-le
