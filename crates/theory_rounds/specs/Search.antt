-- What a settling loop needs, and what it and the calls over it answer and leave. It says no more than the definitions of the papers that it names.
use Rattle.std.specs.Prelude.{true, List, [], ◌∷◌, ◌≡◌, ℕ, ◌*◌, ◌≤◌, ◌<◌, length, replicate}
use Rattle.model.specs.Numbers.{Cells, Sheet, cell, at}
use Rattle.model.specs.Table.{sector_limit}
use Rattle.model.specs.Rounds.{settling, settled, Settles}
use Rattle.model.specs.Checks.{Report, Check, refuses, rounds_of, verdict, output, single, settles, demand_limit}
use Rattle.theory_rounds.specs.Bounds.{RoundsFit, Narrow}

-- rounds from the start s along the rows of the matrix d stay within 64 bits
pub record Settleable (n : ℕ) (d s : Cells) : Type 0 where
  pub few : n ≤ sector_limit
  pub cells : length d ≡ n * n
  pub narrow : Narrow d
  pub sectors : length s ≡ n
  pub small : (i : ℕ) → i < n → cell s i ≤ demand_limit
  pub fits : RoundsFit n (at n d) s

-- the answer r is that of the questions qs, with a count; the outputs have the result, or 0 in every cell; the work cells are cleared. Outputs and
-- work cells come by their lengths
pub record Solved (qs : List Check) (count : ℕ) (result : Cells) (outs works : ℕ) (r : Report) (out work : Cells) : Type 0 where
  pub answer : r ≡ verdict qs (count ∷ [])
  pub outputs : out ≡ output r outs result
  pub cleared : work ≡ replicate works 0

-- a refusal, with 0 in every output and work cell
pub record Cleared (number place outs works : ℕ) (r : Report) (out work : Cells) : Type 0 where
  pub answer : r ≡ refuses 1 number place
  pub outputs : out ≡ replicate outs 0
  pub cleared : work ≡ replicate works 0

module _ (n : ℕ) (c : Sheet) (s : Cells) (budget : ℕ) where
  -- question 9 alone, with the count of rounds
  abbrev pub nine : Report
  nine = verdict (single 9 (settles n c s budget) ∷ []) (settling n c s budget ∷ [])

  -- the answer r is the count of rounds, or number 9; where it is a count, that is the least settling index, within the budget, and y has the
  -- amounts after it
  abbrev pub Searched : (r : Report) (y : Cells) → Type 0
  Searched r y = (r ≡ nine) × (r.accepted ≡ true → Settles n c s (rounds_of r) y × (rounds_of r ≤ budget))

  -- question 9 with the settled amounts
  abbrev pub Settlement : (r : Report) (out work : Cells) → Type 0
  Settlement = Solved (single 9 (settles n c s budget) ∷ []) (settling n c s budget) (settled n c s budget) n n
