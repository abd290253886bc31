-- Coefficients that are alike below n have the same rounds, so the rows of a transposed copy serve for the columns of a matrix. Both
-- are fit for settling. Assumes nothing.
use mathlib.Core.Path.{◌≡◌, refl, sym, ap, ap₂, ◌∙◌, fun_ext, subst⁻¹}
use mathlib.Core.Bool.{true, false, not}
use mathlib.Core.List.{List, [], ◌∷◌}
use Prim.Native.Nat.{ℕ, zero, suc, ◌+◌, ◌*◌, ◌/◌, ◌%◌, ◌≤◌, ◌<◌}
use native.Mathlib.Omega.{arith}
use lib.Dec.{leb}
use lib.ListN.{length}
use Rattle.model.specs.Numbers.{one, first, cell, same, at, transposed}
use Rattle.model.specs.Rounds.{weighted, intermediate, round, rounds, changes, settling, settled}
use Rattle.model.specs.Checks.{Report, verdict, output, single, demand_limit}
use Rattle.model.specs.Promises.{AcceptedMatrix}
use Rattle.theory_rounds.specs.Bounds.{RoundsFit, Narrow, sum_limit}
use Rattle.theory_rounds.specs.Search.{Settleable, Settlement}
use Rattle.theory.proofs.Sums.{sum_cong, sum-cell, cell_in}
use Rattle.theory.proofs.Lists.{tabulate_cong}
use Rattle.theory.proofs.Matrices.{place_row, place_column, place_cell}
use Rattle.theory_rounds.proofs.Promises.{rounds_fit}

abbrev pub Alike : ℕ → (ℕ → ℕ → ℕ) → (ℕ → ℕ → ℕ) → Type 0
Alike n c e = (i j : ℕ) → i < n → j < n → c i j ≡ e i j

module _ (n : ℕ) (c e : ℕ → ℕ → ℕ) (alike : Alike n c e) where
  weighted_alike : (f : ℕ → ℕ) (i : ℕ) → i < n → weighted n c f i ≡ weighted n e f i
  weighted_alike f i h = sum_cong n (λ j l. ap (λ (x : ℕ). x * f j) (alike i j h l))

  round_alike : (s y : List ℕ) → round n c s y ≡ round n e s y
  unfolding round intermediate
  round_alike s y = tabulate_cong n (λ i h. ap (λ (w : ℕ). cell s i + w / one) (weighted_alike (cell y) i h))

  module _ (s : List ℕ) where
    rounds_alike : (k : ℕ) → rounds n c s k ≡ rounds n e s k
    unfolding rounds
    rounds_alike zero = refl
    rounds_alike (suc k) = ap (round n c s) (rounds_alike k) ∙ round_alike s (rounds n e s k)

    changes_alike : (k : ℕ) → changes n c s k ≡ changes n e s k
    unfolding changes
    changes_alike zero = refl
    changes_alike (suc k) = ap₂ (λ (y z : List ℕ). not (same n y z)) (rounds_alike (suc k)) (rounds_alike k)

    settling_alike : (budget : ℕ) → settling n c s budget ≡ settling n e s budget
    unfolding settling
    settling_alike budget = ap (first (suc budget)) (fun_ext changes_alike)

    settled_alike : (budget : ℕ) → settled n c s budget ≡ settled n e s budget
    unfolding settled
    settled_alike budget = ap (rounds n c s) (settling_alike budget) ∙ rounds_alike (settling n e s budget)

    -- so what rounds along the one settle at is what they settle at along the other
    pub settlement_alike : (budget : ℕ) {r : Report} {out work : List ℕ} → Settlement n c s budget r out work → Settlement n e s budget r out work
    settlement_alike budget {r} σ =
        record {
          answer = σ.answer ∙ ap (λ (k : ℕ). verdict (single 9 (leb k budget) ∷ []) (k ∷ [])) (settling_alike budget);
          outputs = σ.outputs ∙ ap (output r n) (settled_alike budget);
          cleared = σ.cleared;
        }

    fits_alike : RoundsFit n e s → RoundsFit n c s
    fits_alike p k i h =
        subst⁻¹ (λ (w : ℕ). w ≤ sum_limit) (ap (λ (y : List ℕ). weighted n c (cell y) i) (rounds_alike k) ∙ weighted_alike (cell (rounds n e s k)) i h) (p k i h)

module _ {n : ℕ} {d : List ℕ} (A : AcceptedMatrix n d) where
  -- no cell is over its column's sum
  matrix_narrow : Narrow d
  matrix_narrow k h =
      let l = subst⁻¹ (λ (m : ℕ). k < m) (sym A.cells) h in
      let j = place_column n k A.some in
      omega (arith, place_cell n d k, sum-cell n (transposed (at n d) (k % n)) (k / n) (place_row n k A.some l), A.low (k % n) j)

  -- nor is one of a copy with rows and columns exchanged
  transposed_narrow : (t : List ℕ) → length t ≡ n * n → Alike n (at n t) (transposed (at n d)) → Narrow t
  transposed_narrow t e alike k h =
      let l = subst⁻¹ (λ (m : ℕ). k < m) (sym e) h in
      let i = place_row n k A.some l in
      let j = place_column n k A.some in
      let inside = subst⁻¹ (λ (m : ℕ). k % n * n + k / n < m) A.cells (cell_in n (k % n) (k / n) j i) in
      omega (arith, place_cell n t k, alike (k / n) (k % n) i j, matrix_narrow (k % n * n + k / n) inside)

  module _ (s : List ℕ) (e : length s ≡ n) (small : (i : ℕ) → i < n → cell s i ≤ demand_limit) where
    pub rows_settleable : Settleable n d s
    rows_settleable =
        record { few = A.few; cells = A.cells; narrow = matrix_narrow; sectors = e; small = small; fits = rounds_fit A s small false }

    pub columns_settleable : (t : List ℕ) → length t ≡ n * n → Alike n (at n t) (transposed (at n d)) → Settleable n t s
    columns_settleable t f alike =
        record {
          few = A.few;
          cells = f;
          narrow = transposed_narrow t f alike;
          sectors = e;
          small = small;
          fits = fits_alike n (at n t) (transposed (at n d)) alike s (rounds_fit A s small true);
        }
