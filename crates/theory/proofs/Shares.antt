-- Quotients to the nearest, shares, and what shares take. Assumes nothing.
use mathlib.Core.Path.{◌≡◌, refl, sym, ◌∙◌}
use Prim.Native.Nat.{ℕ, zero, suc, ◌+◌, ◌*◌, ◌-◌, ◌/◌, ◌%◌, ◌≤◌, ◌<◌, zero-le}
use native.Mathlib.Decide.{dec_lt}
use native.Mathlib.Nat.{div-zero, div-add-mod', mod-lt, div-eq_of_lt-le, div-le_of_le-mul, mul-div-le, lt-mul-div-succ, mul-div_cancel_left, mul-le-mul_right, mul-zero, le_refl, le_antisymm}
use native.Mathlib.Omega.{arith}
use Rattle.model.specs.Numbers.{one}
use Rattle.model.specs.Table.{nearest, share, portion}
use Rattle.model.specs.Promises.{deviation, NearestShare}

-- taken twice, a quotient to the nearest is at most a divisor too high, and less than a divisor too low
nearest_above : (a b : ℕ) → 2 * (nearest a b * b) ≤ 2 * a + b
nearest_above a b = omega (arith, mul-div-le (2 * a + b) (2 * b))

nearest_below : (a b : ℕ) → 0 < b → 2 * a < 2 * (nearest a b * b) + b
nearest_below a b h = omega (arith, lt-mul-div-succ (2 * a + b) {b = 2 * b} (omega arith))

-- by what is left over, held against what is missing to the next number
pub nearest_down : (a b : ℕ) → a % b < b - a % b → a / b ≡ nearest a b
nearest_down a b h =
    sym (div-eq_of_lt-le (2 * b) (omega (arith, div-add-mod' a b)) (omega (arith, h, div-add-mod' a b)))

pub nearest_up : (a b : ℕ) → 0 < b → b - a % b ≤ a % b → a / b + 1 ≡ nearest a b
nearest_up a b some h =
    sym (div-eq_of_lt-le (2 * b) (omega (arith, h, div-add-mod' a b)) (omega (arith, div-add-mod' a b, mod-lt a some)))

-- a quotient by 0 is 0
nearest_zero : (a : ℕ) → nearest a 0 ≡ 0
nearest_zero a = div-zero (2 * a + 0)

-- a part is at most one of its whole
share_le : (part whole : ℕ) → part ≤ whole → share part whole ≤ one
share_le part zero h = rw (nearest_zero (part * one)) zero-le
share_le part (suc w) h = pick (dec_lt one (share part (suc w)))
  where
    pick : Dec (one < share part (suc w)) → share part (suc w) ≤ one
    pick (yes l) = omega (arith, h, nearest_above (part * one) (suc w), mul-le-mul_right (suc w) l)
    pick (no g) = omega arith

-- ---- document 02, ticket 6: "to the nearest millionth, halves upward"
module _ (part whole : ℕ) where
  abbrev s : ℕ
  s = share part whole

  -- a smaller number of millionths is no nearer, and a larger one is farther
  smaller : (k : ℕ) → k < s → deviation part whole s ≤ deviation part whole k
  smaller k h = omega (arith, nearest_above (part * one) whole, mul-le-mul_right whole h)

  larger : 0 < whole → (k : ℕ) → s < k → deviation part whole s < deviation part whole k
  larger some k h = omega (arith, nearest_below (part * one) whole some, mul-le-mul_right whole h)

  none_nearer : 0 < whole → (k : ℕ) → deviation part whole s ≤ deviation part whole k
  none_nearer some k = pick (dec_lt k s) (dec_lt s k)
    where
      pick : Dec (k < s) → Dec (s < k) → deviation part whole s ≤ deviation part whole k
      pick (yes h) _ = smaller k h
      pick (no g) (yes h) = omega (arith, larger some k h)
      pick (no g) (no h) = let e : k ≡ s = omega arith in rw e (le_refl (deviation part whole s))

  none_larger : 0 < whole → (k : ℕ) → deviation part whole k ≡ deviation part whole s → k ≤ s
  none_larger some k e = pick (dec_lt s k)
    where
      pick : Dec (s < k) → k ≤ s
      pick (yes h) = omega (arith, e, larger some k h)
      pick (no h) = omega arith

-- Theorem, for the reader: the share of a part in its whole is the nearest number of millionths, and a half goes upward
pub share-nearest : (part whole : ℕ) → part ≤ whole → NearestShare part whole (share part whole)
share-nearest part whole h =
    record {
      nearest = from whole;
      halves_upward = none_larger part whole;
      of_nothing = λ e. rw e (nearest_zero (part * one));
      within_one = share_le part whole h;
    }
  where
    from : (w k : ℕ) → deviation part w (share part w) ≤ deviation part w k
    from zero k = rw (mul-zero k, mul-zero (share part 0)) (le_refl (deviation part 0 0))
    from (suc w) k = none_nearer part (suc w) (omega arith) k

-- Theorem, for the reader: these words leave no other number
pub nearest_only : (part whole s t : ℕ) → NearestShare part whole s → NearestShare part whole t → s ≡ t
nearest_only part zero s t p q = p.of_nothing refl ∙ sym (q.of_nothing refl)
nearest_only part (suc w) s t p q =
    let some : 0 < suc w = omega arith in
    let e : deviation part (suc w) s ≡ deviation part (suc w) t = le_antisymm (p.nearest t) (q.nearest s) in
    le_antisymm (q.halves_upward some s e) (p.halves_upward some t (sym e))

-- a share takes no more than the whole of an amount
pub portion_le : (m amount : ℕ) → m ≤ one → portion m amount ≤ amount
portion_le m amount h = div-le_of_le-mul one (mul-le-mul_right amount h)

-- and one takes the whole
pub portion_whole : (amount : ℕ) → portion one amount ≡ amount
portion_whole amount = mul-div_cancel_left amount (omega arith)

-- of a larger amount it takes no less: what it takes of the rest, or one more, and no more than the rest
module _ (m amount more : ℕ) where
  abbrev taken : ℕ
  taken = portion m (amount + more)

  pub portion_more : portion m amount + portion m more ≤ taken
  portion_more = omega (arith, mul-div-le (m * amount) one, mul-div-le (m * more) one, lt-mul-div-succ (m * (amount + more)) {b = one} (omega arith))

  pub portion_near : taken ≤ portion m amount + portion m more + 1
  portion_near =
      omega (arith, mul-div-le (m * (amount + more)) one, lt-mul-div-succ (m * amount) {b = one} (omega arith), lt-mul-div-succ (m * more) {b = one} (omega arith))

  pub portion-rest : m ≤ one → taken ≤ portion m amount + more
  portion-rest h = omega (arith, mul-div-le (m * (amount + more)) one, lt-mul-div-succ (m * amount) {b = one} (omega arith), mul-le-mul_right more h)
