-- A sector's next amount from the carried sums, and what a round answers. They are no part of the papers: no contract of a public call cites them.
use Rattle.std.specs.Prelude.{Bool, true, false, Option, MatchOption, ◌≡◌, ℕ, ◌+◌, ◌≤◌, ◌<◌}
use Rattle.model.specs.Numbers.{Cells, cell}
use Rattle.settle_sums.specs.Sums.{taken}

-- the start of sector i, and what industry takes of it by the sums
abbrev pub advanced : (start sums : Cells) (i : ℕ) → ℕ
advanced start sums i = cell start i + taken sums i

-- no increment is larger
abbrev pub AtMost : (n : ℕ) (increments : Cells) (bound : ℕ) → Type 0
AtMost n increments bound = (i : ℕ) → i < n → cell increments i ≤ bound

-- no sector changed, and no increment is over 0; or one did, and there is an upper bound of all increments
abbrev pub Moved : (n : ℕ) (unchanged : Bool) (increments : Cells) (answer : Option ℕ) → Type 0
Moved n unchanged increments answer =
    MatchOption answer ((unchanged ≡ true) × AtMost n increments 0) (λ bound. (unchanged ≡ false) × AtMost n increments bound)
