-- One round from carried sums: with the increments they become those of the amounts, what industry takes follows from them, and with the new increments
-- they are carried on. Assumes nothing.
use mathlib.Core.List.{List}
use mathlib.Core.Path.{◌≡◌, ap, sym, subst⁻¹, ◌∙◌}
use Prim.Native.Nat.{ℕ, ◌+◌, ◌-◌, ◌/◌, ◌≤◌, ◌<◌}
use native.Mathlib.Nat.{lt_of_lt_of_le}
use native.Mathlib.Omega.{arith}
use lib.ListN.{length, replicate, length-replicate, get_or-replicate}
use Rattle.model.specs.Numbers.{one, cell, tabulate}
use Rattle.model.specs.Table.{sector_limit}
use Rattle.model.specs.Rounds.{weighted, intermediate}
use Rattle.theory_rounds.specs.Bounds.{sum_limit}
use Rattle.cells.specs.Sheets.{sheet_of}
use Rattle.cells.specs.declared.matrix.Matrix.{Matrix}
use Rattle.settle_sums.specs.Sums.{sum_cells, HasSum, taken, raised, Fits, SumsOf, Carried}
use Rattle.theory.proofs.Lists.{Agree, cell-tabulate}
use Rattle.theory_rounds.proofs.Rounds.{weighted_add, weighted_cong}

-- before the first round the sums are 0, and all of the start is increment
pub carried_start : (d : Matrix) (s : List ℕ) → d.sectors ≤ sector_limit → Carried d s (replicate sum_cells 0) s
carried_start d s few =
    record {
      room = subst⁻¹ (λ (k : ℕ). d.sectors ≤ k) (length-replicate {A = ℕ} sum_cells 0) few;
      sum = λ i h. omega (arith, get_or-replicate {A = ℕ} sum_cells i 0 0 (lt_of_lt_of_le h few));
    }

module _ {d : Matrix} where
  module _ {increments sums y : List ℕ} (κ : Carried d increments sums y) where
    -- no addition wraps where no sum of the amounts is over the limit
    pub carried_fits : ((i : ℕ) → i < d.sectors → weighted d.sectors (sheet_of d) (cell y) i ≤ sum_limit) → Fits d increments sums
    carried_fits small =
        record { room = κ.room; within = λ i h. subst⁻¹ (λ (w : ℕ). w ≤ sum_limit) (κ.sum i h) (small i h) }

    -- once the increments are added the sums are those of the amounts
    pub carried_added : (t : List ℕ) → length t ≡ length sums → Agree t d.sectors (raised d increments sums) → SumsOf d t y
    carried_added t e added =
        record { room = subst⁻¹ (λ (k : ℕ). d.sectors ≤ k) e κ.room; sum = λ i h. added i h ∙ κ.sum i h }

  module _ {sums y : List ℕ} (σ : SumsOf d sums y) where
    pub has_sum : (i : ℕ) → i < d.sectors → HasSum sums i
    unfolding HasSum
    has_sum i h = lt_of_lt_of_le h σ.room

    -- what industry takes of a sector
    pub taken_is : (i : ℕ) → i < d.sectors → taken sums i ≡ intermediate d.sectors (sheet_of d) (cell y) i
    unfolding taken intermediate
    taken_is i h = ap (λ (w : ℕ). w / one) (σ.sum i h)

    -- with what the amounts rose the sums are carried on to the next amounts
    pub carried_on : (z r : List ℕ) → ((i : ℕ) → i < d.sectors → cell y i ≤ cell z i) → r ≡ tabulate d.sectors (λ i. cell z i - cell y i) → Carried d r sums z
    carried_on z r up f =
        record {
          room = σ.room;
          sum = λ i h.
              ap (λ (w : ℕ). w + weighted d.sectors (sheet_of d) (cell r) i) (σ.sum i h) ∙ sym (weighted_add d.sectors (sheet_of d) (cell y) (cell r) i)
              ∙ weighted_cong d.sectors (sheet_of d) {f = λ j. cell y j + cell r j} {g = cell z} rose i;
        }
      where
        rose : (j : ℕ) → j < d.sectors → cell y j + cell r j ≡ cell z j
        rose j l = omega (arith, up j l, ap (λ (x : List ℕ). cell x j) f, cell-tabulate d.sectors (λ k. cell z k - cell y k) j l)
