-- Lines written one after another. Assumes nothing.
use mathlib.Core.Path.{refl, sym, subst}
use mathlib.Core.List.{List}
use Prim.Native.Nat.{ℕ, suc, ◌+◌, ◌≤◌, ◌<◌}
use native.Mathlib.Decide.{le_ind}
use native.Mathlib.Nat.{le_refl}
use native.Mathlib.Numerals.{add-one}
use native.Mathlib.Omega.{arith}
use lib.ListN.{length, length-append}
use Rattle.model.specs.Page.{lines_to}
use Rattle.theory.proofs.Stores.{Wrote, Begun, begin, go_on, done, room}

-- fewer lines have no more bytes
lines_part : (w : ℕ → List ℕ) (i n : ℕ) → i ≤ n → length (lines_to i w) ≤ length (lines_to n w)
lines_part w i n =
    le_ind (λ (k : ℕ). length (lines_to i w) ≤ length (lines_to k w)) (le_refl (length (lines_to i w))) (λ k h l. omega (arith, l, length-append (lines_to k w) (w k))) n

-- the first i lines were written at `at` into l, which then is m, up to j
pub record Lines (w : ℕ → List ℕ) (i at : ℕ) (l m : List ℕ) (j : ℕ) : Type 0 where
  pub wrote : Wrote (lines_to i w) at l m j

module _ {w : ℕ → List ℕ} {i at j : ℕ} {l m : List ℕ} (p : Lines w i at l m j) where
  -- of one line more, that line is left
  pub line_left : Begun (lines_to (suc i) w) at l m j (w i)
  line_left = go_on (lines_to i w) (w i) refl (begin (lines_to (suc i) w) at l) p.wrote

  pub line_room : (n : ℕ) → i < n → at + length (lines_to n w) ≤ length l → j + length (w i) ≤ length m
  line_room n lt h = room (omega (arith, h, lines_part w (suc i) n lt)) line_left

  pub line_more : {o : List ℕ} {k : ℕ} → Wrote (w i) j m o k → Lines w (i + 1) at l o k
  line_more {o} {k} q = subst (λ (x : ℕ). Lines w x at l o k) (sym (add-one i)) (record { wrote = done line_left q })
