-- Answers as C gets them: by numbers, of which a refusal's counts are 0.
use Rattle.std.specs.Prelude.{cond, List, ◌≡◌, ℕ, ◌*◌, eqb, length, take, drop, Option, Some, None, Result, Ok, Err, [], ◌∷◌}
use Rattle.model.specs.Questions.{number as number_of}
use Rattle.model.specs.Rounds.{row_slice}
use Rattle.model.specs.declared.Refusal.{Refusal}
use Rattle.model.specs.Checks.{Report}
use Rattle.model.specs.declared.TableRead.{TableRead}
use Rattle.checks.specs.declared.NumberedRefusal.{NumberedRefusal}
use Rattle.checks.specs.Numbered.{numbered_of}

-- the number, the place and the counts of a report
abbrev pub Told : Report → (number place : ℕ) (counts : List ℕ) → Type 0
Told r number place counts = (number ≡ r.number) × (place ≡ r.place) × (counts ≡ r.counts)

-- what is told of an answer: its number and its place, 0 and 0 where it was accepted, and what it says then
abbrev pub ToldOf : {A : Type 0} → Result A Refusal → (number place : ℕ) → Option A → Type 0
ToldOf (Ok a) number place said = (number ≡ 0) × (place ≡ 0) × (said ≡ Some a)
ToldOf (Err e) number place said = (number ≡ number_of e.question) × (place ≡ e.place) × (said ≡ None)

-- the same of an answer whose refusal has a number, which need be no question's
abbrev pub ToldBy : {A : Type 0} → Result A NumberedRefusal → (number place : ℕ) → Option A → Type 0
ToldBy (Ok a) number place said = (number ≡ 0) × (place ≡ 0) × (said ≡ Some a)
ToldBy (Err e) number place said = (number ≡ e.number) × (place ≡ e.place) × (said ≡ None)

-- what such an answer of the reader says, with n and how many cells were named
abbrev pub read_numbered : Result TableRead NumberedRefusal → Report
read_numbered = numbered_of 2 (λ t. t.sectors ∷ t.named ∷ [])

-- a sector's row: how many cells it has, where in the sheet it starts, 0 if there is none, and that those cells of the sheet are the row
pub record ToldRow (n : ℕ) (d : List ℕ) (sector start count : ℕ) : Type 0 where
  pub cells : count ≡ length (row_slice n d sector)
  pub begins : start ≡ cond (eqb count 0) 0 (sector * n)
  pub part : take count (drop start d) ≡ row_slice n d sector
