-- A refusal by a number, which need be no question's.
use Rattle.std.specs.Prelude.{List, [], ◌∷◌, ◌≡◌, ℕ, Option, Some, None, Result, Ok, Err}
use Rattle.model.specs.Questions.{number as number_of}
use Rattle.model.specs.declared.Refusal.{Refusal}
use Rattle.model.specs.Checks.{Report, accepts, refuses}
use Rattle.checks.specs.declared.NumberedRefusal.{NumberedRefusal}

-- what an answer says, as `report_of` of `model` has it of one whose refusal is by a question
abbrev pub numbered_of : {A : Type 0} (counts : ℕ) (told : A → List ℕ) → Result A NumberedRefusal → Report
numbered_of k told (Ok a) = accepts (told a)
numbered_of k told (Err e) = refuses k e.number e.place

-- of a call without a count
abbrev pub report_numbered : Result Unit NumberedRefusal → Report
report_numbered = numbered_of 0 (λ _. [])

-- of one that works in rounds, with how many it took
abbrev pub rounds_numbered : Result ℕ NumberedRefusal → Report
rounds_numbered = numbered_of 1 (λ k. k ∷ [])

-- of a check with this number, by its first failing place
abbrev pub report_first : (number : ℕ) → Option ℕ → Report
report_first q (Some place) = refuses 0 q place
report_first q None = accepts []

-- the same refusal, by the number of its question
abbrev pub Named : Refusal → NumberedRefusal → Type 0
Named refusal numbered = (numbered.number ≡ number_of refusal.question) × (numbered.place ≡ refusal.place)
