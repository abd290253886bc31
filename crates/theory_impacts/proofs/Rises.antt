-- What a start that is nowhere below another adds to the settled amounts: for any gauge. Assumes nothing.
use mathlib.Core.List.{List}
use Prim.Native.Nat.{ℕ, ◌+◌, ◌*◌, ◌-◌, ◌≤◌, ◌<◌}
use native.Mathlib.Omega.{arith}
use Rattle.model.specs.Numbers.{one}
use Rattle.model.specs.Rounds.{weighted, Settles}
use Rattle.model.specs.Promises.{NowhereBelow, added}
use Rattle.theory_rounds.proofs.Gauge.{Gauge, bounded}
use Rattle.theory_rounds.proofs.Rounds.{intermediate_apart, intermediate_mono, ordered, settles_fixed}

module _ (n : ℕ) (c : ℕ → ℕ → ℕ) {s y t z : List ℕ} {k m : ℕ} (p : NowhereBelow n s t) (σ : Settles n c s k y) (τ : Settles n c t m z) where
  -- no sector falls
  pub none_falls : NowhereBelow n y z
  none_falls = ordered n c p σ τ

  -- each rises by at least what was added to it
  pub rises_most : (i : ℕ) → i < n → added s t i ≤ added y z i
  rises_most i h = omega (arith, p i h, settles_fixed n c σ i h, settles_fixed n c τ i h, intermediate_mono n c none_falls i)

  -- together they rise by less than 20 for each that was added, and 20 for each unit of the gauge
  module _ (N : (ℕ → ℕ) → ℕ) (u : ℕ) (γ : Gauge n c N u) (some : 1 ≤ u) where
    pub rises_less : N (added y z) < 20 * N (added s t) + 20 * u
    rises_less =
        omega (
          arith,
          bounded n c N u γ (λ i. one * added s t i + (one - 1)) (added y z) passed,
          γ.join (λ i. one * added s t i) (λ i. one - 1),
          γ.scale (added s t),
          γ.flat (one - 1),
        )
      where
        passed : (i : ℕ) → i < n → one * added y z i ≤ one * added s t i + (one - 1) + weighted n c (added y z) i
        passed i h =
            omega (arith, p i h, settles_fixed n c σ i h, settles_fixed n c τ i h, intermediate_apart n c none_falls i)
