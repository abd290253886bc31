-- How far settled amounts are from an exact balance, and how large a round can be: for any gauge. Assumes nothing.
use mathlib.Core.Path.{sym, ap, subst⁻¹}
use mathlib.Core.List.{List}
use Prim.Native.Nat.{ℕ, zero, suc, ◌+◌, ◌*◌, ◌-◌, ◌≤◌, ◌<◌}
use native.Mathlib.Omega.{arith}
use native.Mathlib.Nat.{mul-le-mul_left, mul-pos, sub-add_cancel}
use Rattle.model.specs.Numbers.{one, cell}
use Rattle.model.specs.Rounds.{weighted, rounds, Settles, ExactBalance, shortfall}
use Rattle.theory_rounds.proofs.Gauge.{Gauge, bounded}
use Rattle.theory_rounds.proofs.Rounds.{weighted_cong, weighted_add, weighted_scale, intermediate-within, intermediate_lost, intermediate_mono, rounds_cell, rising, nowhere_too_high_lem, settles_fixed}

module _ (n : ℕ) (c : ℕ → ℕ → ℕ) where
  pub not_above : {s y : List ℕ} {q k : ℕ} {b : ℕ → ℕ} → ExactBalance n c s q b → Settles n c s k y → (i : ℕ) → i < n → q * cell y i ≤ b i
  not_above {s} {y} {q} {k} {b} β σ i h =
      subst⁻¹ (λ (r : List ℕ). q * cell r i ≤ b i) σ.amounts (nowhere_too_high_lem n c s q b β k i h)

  module _ (N : (ℕ → ℕ) → ℕ) (u : ℕ) (γ : Gauge n c N u) where
    -- what settled amounts lack is less than 20 for each unit of the gauge
    pub lacks_less : 1 ≤ u → {s y : List ℕ} {q k : ℕ} {b : ℕ → ℕ} → ExactBalance n c s q b → Settles n c s k y → N (shortfall q b y) < 20 * q * u
    lacks_less some {s} {y} {q} {k} {b} β σ =
        omega (
          arith,
          bounded n c N u γ (λ i. q * (one - 1)) (shortfall q b y) passed,
          γ.flat (q * (one - 1)),
          mul-pos some β.divisor,
        )
      where
        passed : (i : ℕ) → i < n → one * shortfall q b y i ≤ q * (one - 1) + weighted n c (shortfall q b y) i
        passed i h =
            omega (
              arith,
              not_above β σ i h,
              β.balance i h,
              ap (λ (a : ℕ). q * a) (settles_fixed n c σ i h),
              mul-le-mul_left q (intermediate_lost n c (cell y) i),
              weighted_cong n c (λ j l. sym (sub-add_cancel (not_above β σ j l))) i,
              weighted_add n c (shortfall q b y) (λ j. q * cell y j) i,
              weighted_scale n c q (cell y) i,
            )

    -- no round is larger than 20 times the start
    pub rounds_bounded : (s : List ℕ) (k : ℕ) → N (cell (rounds n c s k)) ≤ 20 * N (cell s)
    unfolding rounds
    rounds_bounded s zero = omega arith
    rounds_bounded s (suc k) =
        omega (
          arith,
          γ.scale (cell s),
          bounded n c N u γ (λ i. one * cell s i) (cell (rounds n c s (suc k)))
              (λ i h.
              omega (
                arith,
                rounds_cell n c s k i h,
                intermediate_mono n c (rising n c s k) i,
                intermediate-within n c (cell (rounds n c s (suc k))) i,
              )),
        )

    -- so no weighted sum of a round is larger than this
    pub weighted-bounded : (s : List ℕ) (k i : ℕ) → i < n → weighted n c (cell (rounds n c s k)) i ≤ 19000000 * N (cell s)
    weighted-bounded s k i h =
        omega (
          arith,
          γ.cells (weighted n c (cell (rounds n c s k))) i h,
          γ.shrinks (cell (rounds n c s k)),
          rounds_bounded s k,
        )
