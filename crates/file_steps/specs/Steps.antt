-- What is owed of a record: the step that the walk takes at it, by marks that are those of the cells named so far.
use Rattle.std.specs.Prelude.{true, List, [], ◌∷◌, ◌≡◌, ℕ, suc, ◌≤◌, ◌<◌, length, Option, None, Some, Result, Ok, Err}
use Rattle.model.specs.Table.{sector_limit}
use Rattle.model.specs.File.{Entry, Within, kind_at, whole_at, named_before, marked, Reading, walk, reading, word_limit}
use Rattle.model.specs.Questions.{number}
use Rattle.model.specs.declared.Refusal.{Refusal}
use Rattle.file_records.specs.Bodies.{entry_of}
use Rattle.file_records.specs.declared.Step.{Step}

-- the marks are those of the named cells
pub record Agrees (es : List Entry) (marks : List ℕ) : Type 0 where
  pub same : (e : Entry) → marked marks e.word e.position ≡ named_before es e
  pub words : length marks ≡ word_limit

-- a whole record stands at an offset
pub record Begun (s : List ℕ) (at : ℕ) : Type 0 where
  pub inside : at < length s
  pub whole : whole_at s at ≡ true

-- and its kind is neither the first record's nor the end's
pub record Naming (s : List ℕ) (at : ℕ) : Type 0 where
  pub not_first : kind_at s at ≡ 1 → ⊥
  pub not_end : kind_at s at ≡ 8 → ⊥

-- a record that names a cell, the cell, and the offset after it
pub record Names (s : List ℕ) (n at : ℕ) (e : Entry) (next : ℕ) : Type 0 where
  pub within : Within n e
  pub onward : at < next
  pub inside : next ≤ length s

-- the reading that a refusal is
abbrev pub reading_refused : Refusal → Reading
reading_refused e = Reading.refused (number e.question) e.place

-- the step that the walk takes at an offset
abbrev pub Asked : List ℕ → ℕ → ℕ → List ℕ → Result (Option Step) Refusal → Type 0
Asked s n at marks (Err e) = (fuel : ℕ) (es : List Entry) → Agrees es marks → walk (suc fuel) s n es at ≡ reading_refused e
Asked s n at marks (Ok None) = (fuel : ℕ) (es : List Entry) → Agrees es marks → walk (suc fuel) s n es at ≡ Reading.table n es
Asked s n at marks (Ok (Some step)) =
    let e = entry_of step.cell in
    ((fuel : ℕ) (es : List Entry) → Agrees es marks → walk (suc fuel) s n es at ≡ walk fuel s n (e ∷ es) step.next) × Names s n at e step.next

-- what the first record comes to: a refusal, or n, from which the walk goes on at offset 2
abbrev pub Opened : List ℕ → Result ℕ Refusal → Type 0
Opened s (Err e) = reading s ≡ reading_refused e
Opened s (Ok n) = (reading s ≡ walk (length s) s n [] 2) × (n ≤ sector_limit) × (2 ≤ length s)
