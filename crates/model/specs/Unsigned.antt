-- Document 02, ticket 8: "Productions accepted before give the demand they gave". The call that goes backwards as document 01 has it, which refuses a
-- production that leaves a sector short.
use Rattle.std.specs.Prelude.{List, [], ◌∷◌, ◌++◌, ℕ, ◌-◌, leb, length}
use Rattle.model.specs.Numbers.{Cells, Sheet, tabulate, cell, at}
use Rattle.model.specs.Rounds.{intermediate}
use Rattle.model.specs.Checks.{Report, Check, verdict, each, production_total}
use Rattle.model.specs.Calls.{matrix_checks}

-- Document 01, "Questions a call asks": 10. "Does a given production leave every sector's demand at 0 or above?"
abbrev pub demand_left : ℕ → Sheet → Cells → Check
demand_left n c y = each 10 n (λ i. leb (intermediate n c (cell y) i) (cell y i))

-- "Backwards asks 1, 2, 7, 8, 10"
unfoldable pub unsigned_report : (n : ℕ) (d y : Cells) (lent : List ℕ) → Report
unsigned_report n d y lent = verdict (matrix_checks n d [] (length y ∷ lent) ++ (production_total n y ∷ demand_left n (at n d) y ∷ [])) []

-- Document 01, "Rounds": "demand(i) = production(i) minus what industry takes"; where 10 passes no difference is below 0
unfoldable pub unsigned_demand : ℕ → Sheet → Cells → Cells
unsigned_demand n c y = tabulate n (λ i. cell y i - intermediate n c (cell y) i)
