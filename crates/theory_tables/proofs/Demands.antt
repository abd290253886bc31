-- Laws of the demand for domestic goods, cell by cell. Assumes nothing.
use mathlib.Core.Path.{◌≡◌, ap, subst, ◌∙◌}
use mathlib.Core.List.{List}
use Prim.Native.Nat.{ℕ, ◌+◌, ◌-◌, ◌≤◌, ◌<◌}
use native.Mathlib.Nat.{sub-le, add-sub_of_le}
use native.Mathlib.Omega.{arith}
use lib.ListN.{length}
use Rattle.model.specs.Numbers.{one, cell}
use Rattle.model.specs.Table.{adjusted_exports, portion, domestic_demand}
use Rattle.model.specs.Checks.{amount_limit, demand_limit}
use Rattle.model.specs.Promises.{NowhereBelow, added, OrderedInside}
use Rattle.theory.proofs.Lists.{length-tabulate, cell-tabulate}
use Rattle.theory.proofs.Shares.{portion_le, portion_whole, portion_more, portion_near, portion-rest}

module _ (n : ℕ) (m F E G : List ℕ) where
  -- what is not imported of an amount of sector i
  abbrev inside : ℕ → ℕ → ℕ
  inside amount i = portion (one - cell m i) amount

  pub length_demand : length (domestic_demand n m F E G) ≡ n
  unfolding domestic_demand
  length_demand = length-tabulate n (λ i. inside (cell F i) i + adjusted_exports E G i)

  pub demand_cell : (i : ℕ) → i < n → cell (domestic_demand n m F E G) i ≡ inside (cell F i) i + adjusted_exports E G i
  unfolding domestic_demand
  demand_cell i h = cell-tabulate n (λ i. inside (cell F i) i + adjusted_exports E G i) i h

  -- F is within the limit of amounts by 3, and E plus G by 16
  pub demand_small : (i : ℕ) → i < n → cell F i ≤ amount_limit → adjusted_exports E G i ≤ amount_limit → cell (domestic_demand n m F E G) i ≤ demand_limit
  demand_small i h f e = omega (arith, demand_cell i h, portion_le (one - cell m i) (cell F i) (sub-le one (cell m i)), f, e)

-- from a final demand `before` to one that is nowhere below it
module _ (n : ℕ) (m before F E G : List ℕ) (grows : NowhereBelow n before F) where
  abbrev s : List ℕ
  s = domestic_demand n m before E G

  abbrev t : List ℕ
  t = domestic_demand n m F E G

  -- what a share takes of F in sector i, by what it takes of `before` and of what is spent
  parted : (i : ℕ) → i < n
      → let q = one - cell m i in
      let taken = portion q (cell F i) in
      (portion q (cell before i) + portion q (added before F i) ≤ taken)
      × (taken ≤ portion q (cell before i) + portion q (added before F i) + 1)
      × (taken ≤ portion q (cell before i) + added before F i)
  parted i h =
      let q = one - cell m i in
      let b = cell before i in
      let k = added before F i in
      subst (λ (f : ℕ). (portion q b + portion q k ≤ portion q f) × (portion q f ≤ portion q b + portion q k + 1) × (portion q f ≤ portion q b + k))
      (add-sub_of_le (grows i h))
      (portion_more q b k, portion_near q b k, portion-rest q b k (sub-le one (cell m i)))

  pub demand_rises : NowhereBelow n s t
  demand_rises i h = omega (arith, demand_cell n m before E G i h, demand_cell n m F E G i h, (parted i h).0)

  pub demand_parts : OrderedInside n m (added before F) (added s t)
  demand_parts =
      record {
        at_most = at_most;
        whole = λ i h e.
            let k = added before F i in
            let all : portion (one - cell m i) k ≡ k = ap (λ (z : ℕ). portion (one - z) k) e ∙ portion_whole k in
            omega (arith, at_most i h, at_least i h, all);
        at_least = at_least;
        near = λ i h. omega (arith, cells i h, (parted i h).1);
      }
    where
      cells : (i : ℕ) → i < n → added s t i ≡ portion (one - cell m i) (cell F i) - portion (one - cell m i) (cell before i)
      cells i h = omega (arith, demand_cell n m before E G i h, demand_cell n m F E G i h)

      at_most : (i : ℕ) → i < n → added s t i ≤ added before F i
      at_most i h = omega (arith, cells i h, (parted i h).2)

      at_least : (i : ℕ) → i < n → portion (one - cell m i) (added before F i) ≤ added s t i
      at_least i h = omega (arith, cells i h, (parted i h).0)
