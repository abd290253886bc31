-- The count of rounds: the least settling index, whatever the budget, if the budget allows it. Assumes nothing.
use mathlib.Core.Path.{◌≡◌, refl, sym, ◌∙◌, ap}
use mathlib.Core.Bool.{Bool, true, false, not, true≢false}
use mathlib.Core.List.{List}
use Prim.Native.Nat.{ℕ, suc, ◌+◌, ◌≤◌, ◌<◌, suc-le-suc}
use native.Mathlib.Omega.{arith}
use native.Mathlib.Numerals.{add-one}
use native.Mathlib.Nat.{le_refl, le_of_suc-le-suc, not-suc-le-zero, le_antisymm, lt_of_not-le}
use Rattle.model.specs.Numbers.{same}
use Rattle.model.specs.Rounds.{round, rounds, changes, settling, settled, Settles}
use Rattle.theory.proofs.Sums.{upto}
use Rattle.theory.proofs.Lists.{All, first_here, first_none, first_before, first_fails}

module _ (n : ℕ) (c : ℕ → ℕ → ℕ) (s : List ℕ) where
  -- there is no round before the first
  pub none_yet : All (changes n c s) 1
  unfolding changes
  none_yet = upto (λ j h. absurd (not-suc-le-zero h)) refl

  -- Theorem, for the reader: a count is at least 1
  pub at_least_one : {k : ℕ} {y : List ℕ} → Settles n c s k y → 1 ≤ k
  at_least_one {k} σ = lt_of_not-le (λ h. true≢false (sym (none_yet k (suc-le-suc h)) ∙ σ.unchanged))

  -- Theorem, for the reader: the settling index is one, so any two counts and any two results are the same
  pub settles_once : {k m : ℕ} {y z : List ℕ} → Settles n c s k y → Settles n c s m z → (k ≡ m) × (y ≡ z)
  settles_once {k} {m} {y} {z} σ τ = (e, σ.amounts ∙ ap (rounds n c s) e ∙ sym τ.amounts)
    where
      not_before : {j l : ℕ} {u v : List ℕ} → Settles n c s j u → Settles n c s l v → j ≤ l
      not_before {j} {l} μ ν =
          le_of_suc-le-suc (lt_of_not-le (λ h. true≢false (sym (μ.earlier l h) ∙ ν.unchanged)))

      e : k ≡ m
      e = le_antisymm (not_before σ τ) (not_before τ σ)

  module _ (budget : ℕ) where
    -- a count within the budget is the least settling index
    pub counted : settling n c s budget ≤ budget → Settles n c s (settling n c s budget) (settled n c s budget)
    unfolding settling settled
    counted h =
        record {
          unchanged = first_fails (suc budget) (changes n c s) (suc-le-suc h);
          earlier = first_before (suc budget) (changes n c s);
          amounts = refl;
        }

    -- Theorem, for the reader: where the count is past the budget no round within the budget settles
    pub not_settled : budget < settling n c s budget → All (changes n c s) (suc budget)
    unfolding settling
    not_settled h k l = first_before (suc budget) (changes n c s) k (omega arith)

    -- whatever settles within the budget is what is counted
    pub found : {k : ℕ} {y : List ℕ} → Settles n c s k y → k ≤ budget → (settling n c s budget ≡ k) × (settled n c s budget ≡ y)
    unfolding settling settled
    found {k} σ h =
        let e = first_here (suc budget) (changes n c s) k (suc-le-suc h) σ.earlier σ.unchanged in
        (e, ap (rounds n c s) e ∙ sym σ.amounts)

    -- and where every round within the budget changes a sector the count is past it
    pub not_found : All (changes n c s) (suc budget) → settling n c s budget ≡ suc budget
    unfolding settling
    not_found p = first_none (suc budget) (suc budget) (changes n c s) (le_refl (suc budget)) p

  -- one turn of a settling loop, from the amounts y after k rounds, each of which changed a sector, to the amounts z of the next
  module _ (k : ℕ) (y : List ℕ) (e : y ≡ rounds n c s k) (before : All (changes n c s) (k + 1)) where
    pub turn_amounts : {z : List ℕ} → z ≡ round n c s y → z ≡ rounds n c s (k + 1)
    unfolding rounds
    turn_amounts f = rw add-one (f ∙ ap (round n c s) e)

    turn_changes : {t : Bool} → t ≡ same n (round n c s y) y → changes n c s (k + 1) ≡ not t
    unfolding changes rounds
    turn_changes g = rw (add-one, ← e, ← g)

    pub turn_settles : {z : List ℕ} → z ≡ round n c s y → true ≡ same n (round n c s y) y → Settles n c s (k + 1) z
    turn_settles f g = record { unchanged = turn_changes g; earlier = before; amounts = turn_amounts f }

    pub turn_more : false ≡ same n (round n c s y) y → All (changes n c s) (k + 1 + 1)
    turn_more g = rw (add-one (k + 1)) (upto before (turn_changes g))
