-- Rounds settle within a bound, for any gauge. The gap to the settled amounts falls to 950,000 millionths in each round, until it is at most 20 for each
-- unit of the gauge, so 20 for each sector; from there each round that changes a sector lowers the total gap by 1 or more. Assumes nothing.
use mathlib.Core.Path.{◌≡◌, sym, ap, ◌∙◌, subst⁻¹}
use mathlib.Core.Bool.{true, not, true≢false}
use mathlib.Core.List.{List}
use Prim.Native.Nat.{ℕ, zero, suc, ◌+◌, ◌*◌, ◌-◌, ◌/◌, ◌^◌, ◌≤◌, ◌<◌}
use native.Mathlib.Omega.{arith}
use native.Mathlib.Nat.{le_refl, le_step, le_of_suc-le-suc, lt-suc_self, le_trans, le_of_eq, lt_of_not-le, lt_of_le_of_lt, mul-le-mul_left, mul-le-mul_right, le_of_mul-le-mul_left, lt_of_mul-lt-mul_left, mul-one, sub-add_cancel, sub-le, pow-suc, add-zero, add-suc}
use Rattle.model.specs.Numbers.{one, sum, cell}
use Rattle.model.specs.Rounds.{weighted, rounds, changes, settling, settled, Settles}
use Rattle.model.specs.Checks.{column_limit}
use Rattle.theory.proofs.Sums.{sum_mono, sum_cong, sum_add, sum_tight}
use Rattle.theory.proofs.Lists.{All, equal_same}
use Rattle.theory_rounds.proofs.Gauge.{Gauge}
use Rattle.theory_rounds.proofs.Rounds.{intermediate_apart, rounds_cell, rising, least, settles_fixed}
use Rattle.theory_rounds.proofs.Settling.{counted, not_settled}
use Rattle.theory_rounds.proofs.Accuracy.{rounds_bounded}

-- of a gap a round passes on so many millionths, by question 7
abbrev pub passed_on : ℕ
passed_on = column_limit

-- and so many units of it may stay, since what a round takes of these rounding can add again: 20
abbrev pub last_units : ℕ
last_units = one / (one - passed_on)

-- a number of which each step passes on so much, and u more: what it has above the last units of u falls so too
decay : (u : ℕ) (e : ℕ → ℕ) → ((k : ℕ) → one * e (suc k) ≤ passed_on * e k + one * u) → (k : ℕ) → one ^ k * (e k - last_units * u) ≤ passed_on ^ k * e 0
decay u e p zero = omega arith
decay u e p (suc k) =
    simp pow-suc (step (one ^ k) (passed_on ^ k) (e k - last_units * u) (e (suc k) - last_units * u) (e 0) (omega (arith, p k)) (decay u e p k))
  where
    step : (a b f g r : ℕ) → one * g ≤ passed_on * f → a * f ≤ b * r → a * one * g ≤ b * passed_on * r
    step a b f g r h l = omega (arith, mul-le-mul_left a h)

module _ (n : ℕ) (c : ℕ → ℕ → ℕ) (s : List ℕ) where
  -- a round that changes a sector lifts the total
  lifts : (k : ℕ) → changes n c s (suc k) ≡ true → sum n (cell (rounds n c s k)) < sum n (cell (rounds n c s (suc k)))
  unfolding changes
  lifts k e =
      lt_of_not-le (λ h.
      let t = equal_same n (rounds n c s (suc k)) (rounds n c s k) (sum_tight n (rising n c s k) h) in
      true≢false (sym e ∙ ap not t))

  -- and t such rounds in turn lift it by t or more
  climbs : (m t : ℕ) → ((j : ℕ) → j < t → changes n c s (suc (m + j)) ≡ true) → sum n (cell (rounds n c s m)) + t ≤ sum n (cell (rounds n c s (m + t)))
  climbs m zero all = simp add-zero (le_refl (sum n (cell (rounds n c s m))))
  climbs m (suc t) all =
      rw (add-suc m t) (omega (arith, climbs m t (λ j h. all j (le_step h)), lifts (m + t) (all t (lt-suc_self t))))

  -- rounds that do not all change a sector within the budget settle within it
  within_budget : (budget : ℕ) → (All (changes n c s) (suc budget) → ⊥) → settling n c s budget ≤ budget
  within_budget budget some = le_of_suc-le-suc (lt_of_not-le (λ h. some (not_settled n c s budget h)))

  module _ (N : (ℕ → ℕ) → ℕ) (u : ℕ) (γ : Gauge n c N u) (some : 1 ≤ u) where
    -- they settle, since they are bounded
    abbrev bound : ℕ
    bound = suc (n * (20 * N (cell s)))

    ends : Settles n c s (settling n c s bound) (settled n c s bound)
    ends = counted n c s bound (within_budget bound (λ all.
        let y : ℕ → ℕ = cell (rounds n c s (0 + bound)) in
        omega (
          arith,
          climbs 0 bound (λ j h. all (suc (0 + j)) (omega arith)),
          mul-le-mul_right (sum n y) some,
          γ.total y,
          mul-le-mul_left n (rounds_bounded n c N u γ s (0 + bound)),
        )))

    module _ {k : ℕ} {y : List ℕ} (σ : Settles n c s k y) where
      -- what the amounts after m rounds lack against the settled ones
      gap : ℕ → ℕ → ℕ
      gap m i = cell y i - cell (rounds n c s m) i

      -- no round is above them
      below : (m i : ℕ) → i < n → cell (rounds n c s m) i ≤ cell y i
      below m i h = least n c s (cell y) (λ j l. le_of_eq (sym (settles_fixed n c σ j l))) m i h

      -- of the gap a round leaves what is passed on of it, and what rounding loses
      gap_falls : (m : ℕ) → one * N (gap (suc m)) ≤ passed_on * N (gap m) + one * u
      unfolding gap
      gap_falls m =
          omega (
            arith,
            γ.scale (gap (suc m)),
            γ.mono (λ i. one * gap (suc m) i) (λ i. one - 1 + weighted n c (gap m) i) passed,
            γ.join (λ i. one - 1) (weighted n c (gap m)),
            γ.shrinks (gap m),
            γ.flat (one - 1),
          )
        where
          passed : (i : ℕ) → i < n → one * gap (suc m) i ≤ one - 1 + weighted n c (gap m) i
          passed i h = omega (arith, rounds_cell n c s m i h, settles_fixed n c σ i h, intermediate_apart n c (below m) i)

      -- it starts below 20 times the start, and after m rounds it is at most 20 a sector
      gap_start : N (gap 0) ≤ 20 * N (cell s)
      unfolding gap
      gap_start =
          le_trans (γ.mono (gap 0) (cell y) (λ i h. sub-le (cell y i) (cell (rounds n c s 0) i)))
          (subst⁻¹ (λ (r : List ℕ). N (cell r) ≤ 20 * N (cell s)) σ.amounts (rounds_bounded n c N u γ s k))

      gap_small : (m : ℕ) → passed_on ^ m * (20 * N (cell s)) < one ^ m → sum n (gap m) ≤ last_units * n
      gap_small m h =
          let few : N (gap m) - last_units * u < 1 =
          lt_of_mul-lt-mul_left (one ^ m)
          (rw mul-one
          (lt_of_le_of_lt (decay u (λ r. N (gap r)) gap_falls m) (lt_of_le_of_lt (mul-le-mul_left (passed_on ^ m) gap_start) h))) in
          let units : N (gap m) ≤ last_units * u = omega arith in
          le_of_mul-le-mul_left (omega (arith, γ.total (gap m), mul-le-mul_left n units)) some

      -- so of 20 n + 1 rounds more one changes no sector
      not_all : (m : ℕ) → passed_on ^ m * (20 * N (cell s)) < one ^ m → (budget : ℕ) → m + last_units * n < budget → All (changes n c s) (suc budget) → ⊥
      unfolding gap
      not_all m h budget room all =
          omega (
            arith,
            climbs m (suc (last_units * n)) (λ j l. all (suc (m + j)) (omega arith)),
            sum_mono n (below (m + suc (last_units * n))),
            sum_cong n (λ j l. sub-add_cancel (below m j l)),
            sum_add n (gap m) (cell (rounds n c s m)),
            gap_small m h,
          )

    -- m rounds until the gap is small, and 20 n + 1 more, are enough
    pub enough : (m : ℕ) → passed_on ^ m * (20 * N (cell s)) < one ^ m → (budget : ℕ) → m + last_units * n < budget → settling n c s budget ≤ budget
    enough m h budget room = within_budget budget (not_all ends m h budget room)
