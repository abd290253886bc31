-- Bounds that keep sums within 64 bits, and products cheap. They are no part of the papers.
use Rattle.std.specs.Prelude.{ℕ, ◌*◌, ◌^◌, ◌<◌, ◌≤◌, length}
use Rattle.model.specs.Numbers.{Cells, Sheet, one, cell}
use Rattle.model.specs.Rounds.{weighted, rounds}
use Rattle.model.specs.Checks.{production_limit}

-- no weighted sum of an accepted call is larger
abbrev pub sum_limit : ℕ
sum_limit = one * production_limit

-- nor is any of the rounds from a start
abbrev pub RoundsFit : ℕ → Sheet → Cells → Type 0
RoundsFit n c s = (k i : ℕ) → i < n → weighted n c (cell (rounds n c s k)) i ≤ sum_limit

-- every cell is narrow, below 2^32
abbrev pub narrow_limit : ℕ
narrow_limit = 2 ^ 32

abbrev pub Narrow : Cells → Type 0
Narrow l = (k : ℕ) → k < length l → cell l k < narrow_limit
