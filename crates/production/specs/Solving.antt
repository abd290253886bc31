-- What the inner functions of production and price promise. The contract of no public call cites it.
use Rattle.std.specs.Prelude.{Result, [], ◌∷◌, ◌++◌, ◌≡◌, ℕ, length, replicate}
use Rattle.model.specs.Numbers.{Cells}
use Rattle.model.specs.Checks.{report, verdict, bounded}
use Rattle.model.specs.Calls.{matrix_checks}
use Rattle.model.specs.declared.Refusal.{Refusal}

-- questions 1, 2, 7 and 8 of a start and its limit are answered, and outputs and work cells are 0. These come by their lengths
pub record Checked (n : ℕ) (d : Cells) (limit : ℕ) (s : Cells) (outs works : ℕ) (r : Result Unit Refusal) (out work : Cells) : Type 0 where
  pub answer : report r ≡ verdict (matrix_checks n d [] (length s ∷ outs ∷ works ∷ []) ++ (bounded 8 0 limit s ∷ [])) []
  pub outputs : out ≡ replicate outs 0
  pub cleared : work ≡ replicate works 0
