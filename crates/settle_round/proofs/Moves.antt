-- What `or` says of the increments that it takes in. Assumes nothing.
use mathlib.Core.Bool.{Bool, true, false, ◌&&◌}
use mathlib.Core.Path.{◌≡◌, refl, ap, subst}
use Prim.Native.Nat.{ℕ, ◌-◌, ◌≤◌}
use native.Mathlib.Omega.{arith}
use borrow.Author.Tests.{eqb-true, eqb-false, eq-eqb, ne_eqb}
use lib.Bits.{bit_or, or_add_and, and_le_r, or_comm}
use lib.Dec.{eqb}

-- `or` of two numbers is at least each of them
pub le_or_left : (a b : ℕ) → a ≤ bit_or a b
le_or_left a b = omega (arith, or_add_and a b, and_le_r a b)

pub le_or_right : (a b : ℕ) → b ≤ bit_or a b
le_or_right a b = subst (λ (x : ℕ). b ≤ x) (or_comm b a) (le_or_left b a)

-- and is 0 where both are
pub or_none : (a b : ℕ) → eqb (bit_or a b) 0 ≡ eqb a 0 && eqb b 0
or_none a b = split (eqb a 0) refl
  where
    split : (t : Bool) → eqb a 0 ≡ t → eqb (bit_or a b) 0 ≡ t && eqb b 0
    split true e = ap (λ (x : ℕ). eqb (bit_or x b) 0) (eqb-true a 0 e)
    split false e = ne_eqb (bit_or a b) 0 (λ z. eqb-false a 0 e (omega (arith, z, le_or_left a b)))

-- an increment is 0 where the amount is the same
pub increment_none : (a o : ℕ) → o ≤ a → eqb (a - o) 0 ≡ eqb a o
increment_none a o h = split (eqb a o) refl
  where
    split : (t : Bool) → eqb a o ≡ t → eqb (a - o) 0 ≡ t
    split true e = eq-eqb (a - o) 0 (omega (arith, eqb-true a o e))
    split false e = ne_eqb (a - o) 0 (λ z. eqb-false a o e (omega (arith, z, h)))
