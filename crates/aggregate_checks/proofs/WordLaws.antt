-- A word that is moved down by n bits tells whether it has a bit at n or above. Assumes nothing.
use mathlib.Core.Bool.{Bool, true, false, ◌&&◌, false≢true}
use mathlib.Core.Path.{◌≡◌, refl, sym, ap, ◌∙◌}
use Prim.Native.Nat.{ℕ, ◌/◌, ◌*◌, ◌+◌, ◌^◌, ◌≤◌, ◌<◌}
use native.Mathlib.Nat.{div-eq_of_lt, lt-mul-div-succ}
use native.Mathlib.Decide.{dec_lt}
use native.Mathlib.Omega.{arith}
use borrow.Author.Tests.{lt-ltb, le-ltb, eqb-true, eq-eqb}
use lib.Dec.{ltb, eqb}
use lib.Pow.{pow_pos}
use Rattle.theory.proofs.Lists.{and_last_false}
use Rattle.model.specs.Aggregation.{group_fits}

above : (n w : ℕ) → (w / 2 ^ n ≡ 0 → ⊥) → group_fits n w ≡ false
above n w h = ap (λ (b : Bool). ltb 0 w && b) (le-ltb w (2 ^ n) (high (dec_lt w (2 ^ n)))) ∙ and_last_false (ltb 0 w)
  where
    high : Dec (w < 2 ^ n) → 2 ^ n ≤ w
    high (yes l) = absurd (h (div-eq_of_lt l))
    high (no l) = omega arith

below : (n w : ℕ) → 1 ≤ w → w / 2 ^ n ≡ 0 → group_fits n w ≡ true
below n w some e =
    let l : w < 2 ^ n = omega (arith, lt-mul-div-succ w {b = 2 ^ n} (pow_pos n), ap (λ (q : ℕ). 2 ^ n * (q + 1)) e) in
    rw (lt-ltb 0 w (omega arith), lt-ltb w (2 ^ n) l)

pub moved : (n w : ℕ) → 1 ≤ w → eqb (w / 2 ^ n) 0 ≡ group_fits n w
moved n w some = split (eqb (w / 2 ^ n) 0) refl
  where
    split : (t : Bool) → eqb (w / 2 ^ n) 0 ≡ t → t ≡ group_fits n w
    split true e = sym (below n w some (eqb-true (w / 2 ^ n) 0 e))
    split false e = sym (above n w (λ z. false≢true (sym e ∙ eq-eqb (w / 2 ^ n) 0 z)))
