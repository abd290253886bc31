-- What question 19 asks of groups, for helpers that ask it of one column after the other.
use Rattle.std.specs.Prelude.{Bool, ◌&&◌, List, ℕ, leb}
use Rattle.model.specs.Numbers.{all, cell}
use Rattle.model.specs.Checks.{amount_limit}
use Rattle.model.specs.Aggregation.{group_total}

-- no group has more than the limit of amounts together, in a column
abbrev pub totals_within : (n : ℕ) (groups column : List ℕ) → Bool
totals_within n groups column = all (λ group. leb (group_total n group (cell column)) amount_limit) groups

-- and in those that decide the question: F, M and X
abbrev pub deciding_within : (n : ℕ) (groups F M X : List ℕ) → Bool
deciding_within n groups F M X = totals_within n groups F && totals_within n groups M && totals_within n groups X
