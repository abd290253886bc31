-- The Leontief inverse has small cells, and its first is not 0, so that its ratios stay within 64 bits. Assumes nothing.
use mathlib.Core.Bool.{Bool, true, false, cond}
use mathlib.Core.List.{List, [], ◌∷◌}
use mathlib.Core.Path.{◌≡◌, refl, sym, ap, subst⁻¹, ◌∙◌}
use Prim.Native.Nat.{ℕ, ◌*◌, ◌≤◌, ◌<◌}
use native.Mathlib.Omega.{arith}
use borrow.Author.Tests.{eq-eqb}
use lib.ListN.{length}
use Rattle.model.specs.Numbers.{one, sum, cell, at, oriented}
use Rattle.model.specs.Rounds.{settling, settled, unit, inverse}
use Rattle.model.specs.Checks.{Report, accepts}
use Rattle.model.specs.Calls.{inverse_report}
use Rattle.model.specs.Promises.{AcceptedMatrix}
use Rattle.inverse_ratios.specs.Columns.{inverse_cell_limit, Dispersed}
use Rattle.inverse_ratios.proofs.Dispersion.{turned}
use Rattle.inverse_columns.proofs.Leontief.{inverse-cell, length-inverse, accepted_inverse}
use Rattle.theory.proofs.Sums.{sum_most, sum-cell}
use Rattle.theory_rounds.proofs.Gauge.{total_gauge}
use Rattle.theory_rounds.proofs.Rounds.{above_start, unit-cell, unit_small}
use Rattle.theory_rounds.proofs.Accuracy.{rounds_bounded}

module _ {n : ℕ} {d : List ℕ} (A : AcceptedMatrix n d) (budget : ℕ) where
  -- no cell of the inverse is over 20 times the total of its start
  settled_small : (i j : ℕ) → i < n → cell (settled n (at n d) (unit n j) budget) i ≤ inverse_cell_limit
  unfolding settled
  settled_small i j h =
      let few = A.few in
      omega (
        arith,
        sum-cell n (cell (settled n (at n d) (unit n j) budget)) i h,
        rounds_bounded n (at n d) (sum n) n (total_gauge n (at n d) A.low) (unit n j) (settling n (at n d) (unit n j) budget),
        sum_most n one {f = cell (unit n j)} (unit_small n j),
      )

  -- and a sector's own cell is at least one
  settled_positive : (j : ℕ) → j < n → 1 ≤ cell (settled n (at n d) (unit n j) budget) j
  unfolding settled
  settled_positive j h =
      omega (
        arith,
        above_start n (at n d) (unit n j) (settling n (at n d) (unit n j) budget) j h,
        unit-cell n j j h ∙ ap (λ (b : Bool). cond b one 0) (eq-eqb j j refl),
      )

  dispersed : Dispersed n (at n (inverse n d budget))
  dispersed =
      record {
        some = A.some;
        few = A.few;
        small = λ i j h l. rw (inverse-cell n d budget i j h l) (settled_small i j h);
        positive = rw (inverse-cell n d budget 0 0 A.some A.some) (settled_positive 0 A.some);
      }

  -- in either direction
  inverse_dispersed : (t : Bool) → Dispersed n (oriented t (at n (inverse n d budget)))
  inverse_dispersed true = turned dispersed
  inverse_dispersed false = dispersed

  -- a sheet that has it is ready for its ratios
  pub inverse_ready : {sheet : List ℕ} → sheet ≡ inverse n d budget
      → (length sheet ≡ n * n) × ((t : Bool) → Dispersed n (oriented t (at n sheet)))
  inverse_ready e = (
    ap length e ∙ length-inverse n d budget,
    λ t. subst⁻¹ (λ (s : List ℕ). Dispersed n (oriented t (at n s))) e (inverse_dispersed t),
  )

-- so is that of an accepted call, and the slices of the ratios have their lengths
pub record Ready (n : ℕ) (sheet : List ℕ) (powers sensitivities : ℕ) : Type 0 where
  pub cells : length sheet ≡ n * n
  pub dispersed : Dispersed n (at n sheet)
  pub power : powers ≡ n
  pub sensitivity : sensitivities ≡ n

pub accepted_ready : (n : ℕ) (d : List ℕ) (budget : ℕ) (matrices : List ℕ) (powers sensitivities : ℕ) {k : ℕ} {sheet : List ℕ}
    → accepts (k ∷ []) ≡ inverse_report n d budget matrices (powers ∷ sensitivities ∷ []) → sheet ≡ inverse n d budget
    → Ready n sheet powers sensitivities
accepted_ready n d budget matrices powers sensitivities e made =
    let a = accepted_inverse n d budget matrices (powers ∷ sensitivities ∷ []) (ap (λ (r : Report). r.accepted) (sym e)) in
    let r = inverse_ready a.0 budget made in
    record { cells = r.0; dispersed = r.1 false; power = a.1.0; sensitivity = a.1.1.0 }
