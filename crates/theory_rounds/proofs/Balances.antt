-- The exact balances of the worked cases P2 and P8, from the table of worked cases. Assumes nothing.
use mathlib.Core.Path.{◌≡◌, refl, sym, ◌∙◌, ap}
use mathlib.Core.List.{List, [], ◌∷◌}
use Prim.Native.Nat.{ℕ, ◌+◌, ◌*◌, ◌≤◌}
use native.Mathlib.Nat.{le_refl}
use Rattle.model.specs.Numbers.{one, cell, at}
use Rattle.model.specs.Rounds.{weighted, ExactBalance}
use Rattle.model.proofs.Worked.{d, f, left_side, right_side}
use Rattle.theory.proofs.Lists.{cell-tabulate}

-- two sides that are equal lists are an exact balance
balance_of : (n : ℕ) (c s : List ℕ) (q : ℕ) (b : List ℕ) → 1 ≤ q → left_side n c b ≡ right_side n c s q b → ExactBalance n (at n c) s q (cell b)
balance_of n c s q b h e =
    record {
      divisor = h;
      balance = λ i l.
          sym (cell-tabulate n (λ i. one * cell b i) i l)
          ∙ ap (λ (r : List ℕ). cell r i) e
          ∙ cell-tabulate n (λ i. one * q * cell s i + weighted n (at n c) (cell b) i) i l;
    }

-- Theorem, for the reader: the exact balance of P2
pub balance_2 : ExactBalance 2 (at 2 d) f 1 (cell (1000 ∷ 2000 ∷ []))
balance_2 = balance_of 2 d f 1 (1000 ∷ 2000 ∷ []) (le_refl 1) refl

-- Theorem, for the reader: the exact balance of P8
pub balance_8 : ExactBalance 1 (at 1 (950000 ∷ [])) (1 ∷ []) 1 (cell (20 ∷ []))
balance_8 = balance_of 1 (950000 ∷ []) (1 ∷ []) 1 (20 ∷ []) (le_refl 1) refl
