-- Document 02, ticket 5: "a budget of 1,400 settles every production, price and inverse column that passes the other questions". Productions and
-- columns by the total, prices by the largest: instances of one law over a gauge. Assumes nothing.
use mathlib.Core.List.{List}
use Prim.Native.Nat.{ℕ, ◌+◌, ◌*◌, ◌-◌, ◌^◌, ◌≤◌, ◌<◌}
use native.Mathlib.Omega.{arith}
use native.Mathlib.Nat.{le_refl, le_trans, lt_of_le_of_lt, mul-le-mul_left, mul-le-mul_right}
use lib.Dec.{T, ltb, lit<}
use Rattle.model.specs.Numbers.{one, sum, largest, cell, at, transposed}
use Rattle.model.specs.Table.{sector_limit}
use Rattle.model.specs.Rounds.{settling, unit}
use Rattle.model.specs.Checks.{demand_limit, rise_limit, production_budget, price_budget}
use Rattle.model.specs.Promises.{AcceptedMatrix}
use Rattle.theory.proofs.Sums.{sum_most, largest_le}
use Rattle.theory_rounds.proofs.Gauge.{Gauge, total_gauge, largest_gauge}
use Rattle.theory_rounds.proofs.Rounds.{unit_small}
use Rattle.theory_budgets.proofs.Enough.{passed_on, last_units, enough}

-- the end of the rounds, in which a round may change one unit alone: 20 for each of 40 sectors, and the round that changes none
abbrev end_rounds : ℕ
end_rounds = last_units * sector_limit + 1

-- the rounds of a budget before them
abbrev earlier : ℕ → ℕ
earlier budget = budget - end_rounds

-- after them the gap is small, from every start up to a limit: a comparison of two powers
abbrev Suffices : (budget limit : ℕ) → Type 0
Suffices budget limit = T (ltb (passed_on ^ earlier budget * (20 * limit)) (one ^ earlier budget))

module _ {n : ℕ} {d : List ℕ} (A : AcceptedMatrix n d) (most limit : ℕ) where
  settles-within : (c : ℕ → ℕ → ℕ) (N : (ℕ → ℕ) → ℕ) (u : ℕ) → Gauge n c N u → 1 ≤ u → (s : List ℕ) → Suffices most limit → N (cell s) ≤ limit
      → (budget : ℕ) → earlier most + end_rounds ≤ budget → settling n c s budget ≤ budget
  settles-within c N u γ some s t small budget room =
      let few = A.few in
      enough n c s N u γ some (earlier most) (lt_of_le_of_lt (mul-le-mul_left (passed_on ^ earlier most) (mul-le-mul_left 20 small)) (lit< t)) budget (omega arith)

-- along the rows the total measures the gap, down the columns the largest
module _ {n : ℕ} {d : List ℕ} (A : AcceptedMatrix n d) (most limit : ℕ) (s : List ℕ) (small : (i : ℕ) → i < n → cell s i ≤ limit) where
  by_total : Suffices most (sector_limit * limit) → (budget : ℕ) → earlier most + end_rounds ≤ budget → settling n (at n d) s budget ≤ budget
  by_total t =
      settles-within A most (sector_limit * limit) (at n d) (sum n) n (total_gauge n (at n d) A.low) A.some s t
      (le_trans (sum_most n limit small) (mul-le-mul_right limit A.few))

  by_largest : Suffices most limit → (budget : ℕ) → earlier most + end_rounds ≤ budget → settling n (transposed (at n d)) s budget ≤ budget
  by_largest t =
      settles-within A most limit (transposed (at n d)) (largest n) 1 (largest_gauge n (at n d) A.low) (le_refl 1) s t (largest_le n small)

-- Theorems, for the reader: from these budgets on every production, every price and every inverse column settles
module _ {n : ℕ} {d : List ℕ} (A : AcceptedMatrix n d) where
  pub production_settles : (f : List ℕ) → ((i : ℕ) → i < n → cell f i ≤ demand_limit) → (budget : ℕ) → production_budget ≤ budget → settling n (at n d) f budget ≤ budget
  production_settles f small budget h = by_total A production_budget demand_limit f small tt budget (omega arith)

  pub price_settles : (w : List ℕ) → ((i : ℕ) → i < n → cell w i ≤ rise_limit) → (budget : ℕ) → price_budget ≤ budget
      → settling n (transposed (at n d)) w budget ≤ budget
  price_settles w small budget h = by_largest A price_budget rise_limit w small tt budget (omega arith)

  pub column_settles : (j budget : ℕ) → price_budget ≤ budget → settling n (at n d) (unit n j) budget ≤ budget
  column_settles j budget h = by_total A price_budget one (unit n j) (unit_small n j) tt budget (omega arith)
