-- What is kept from record to record, the loop of the walk, and how it ends. Assumes nothing.
use mathlib.Core.List.{List, [], ◌∷◌}
use mathlib.Core.Path.{◌≡◌, refl, sym, ap, ◌∙◌, subst}
use Prim.Native.Nat.{ℕ, zero, suc, pred, ◌+◌, ◌≤◌}
use native.Mathlib.Omega.{arith}
use borrow.Author.Tests.{le-leb}
use lib.ListN.{length, replicate, length-replicate}
use Rattle.std.proofs.Common.{Ok, Err, None, Some}
use Rattle.model.specs.Questions.{number}
use Rattle.model.specs.Checks.{accepts, report_read}
use Rattle.model.specs.File.{Entry, marked, mark_total, Reading, walk, walk_with, reading, answer_of, cell_limit, word_limit}
use Rattle.model.specs.declared.Refusal.{Refusal}
use Rattle.theory_files.proofs.Marks.{named_total}
use Rattle.marks.proofs.MarkLaws.{marked_none}
use Rattle.file_records.specs.Bodies.{entry_of}
use Rattle.file_records.specs.declared.Step.{Step}
use Rattle.file_steps.specs.Steps.{Asked, reading_refused}
use Rattle.file_walk.specs.Steps.{Held, Kept, Accepts}
use Rattle.file_walk.proofs.CellLaws.{held_none, held_refused}

-- no cell named yet
pub keeps_none : (n : ℕ) (cells marks : List ℕ) → cells ≡ replicate cell_limit 0 → marks ≡ replicate word_limit 0 → Kept n [] cells marks
keeps_none n cells marks x y = record {
  held = held_none cells x n;
  agrees = record {
    same = λ d. ap (λ (l : List ℕ). marked l d.word d.position) y ∙ marked_none word_limit d.word d.position;
    words = ap length y ∙ length-replicate {A = ℕ} word_limit 0;
  };
}

pub record Walking (s : List ℕ) (n : ℕ) (cells marks : List ℕ) (at : ℕ) : Type 0 where
  pub es : List Entry
  pub fuel : ℕ
  pub same : walk (length s) s n [] 2 ≡ walk fuel s n es at
  pub enough : length s ≤ at + fuel
  pub inside : at ≤ length s
  pub kept : Kept n es cells marks

pub starts : (s : List ℕ) (n : ℕ) (cells marks : List ℕ) → 2 ≤ length s → Kept n [] cells marks → Walking s n cells marks 2
starts s n cells marks h k = record { es = []; fuel = length s; same = refl; enough = omega arith; inside = h; kept = k }

-- steps that reach the file's end are enough
one_more : (fuel : ℕ) (s : List ℕ) (n at : ℕ) (es : List Entry) → length s ≤ at + fuel → walk fuel s n es at ≡ walk (suc (pred fuel)) s n es at
unfolding walk_with
one_more zero s n at es h = let past : length s ≤ at = omega arith in rw (le-leb (length s) at past) refl
one_more (suc k) s n at es h = refl

module _ (s : List ℕ) (n : ℕ) (cells marks : List ℕ) (at : ℕ) (w : Walking s n cells marks at) where
  -- the walk stands before the step that the code took
  abbrev next-fuel : ℕ
  next-fuel = pred w.fuel

  before : walk (length s) s n [] 2 ≡ walk (suc next-fuel) s n w.es at
  before = w.same ∙ one_more w.fuel s n at w.es w.enough

  pub stopped : (e : Refusal) → Asked s n at marks (Err e) → walk (length s) s n [] 2 ≡ reading_refused e
  stopped e t = before ∙ t next-fuel w.es w.kept.agrees

  pub finished : Asked s n at marks (Ok None) → Accepts (walk (length s) s n [] 2) n cells marks
  finished t = record { es = w.es; same = before ∙ t next-fuel w.es w.kept.agrees; kept = w.kept }

  pub goes_on :
      (step : Step) (cells' marks' : List ℕ) → Asked s n at marks (Ok (Some step))
      → ((es : List Entry) → Kept n es cells marks → Kept n (entry_of step.cell ∷ es) cells' marks') → Walking s n cells' marks' step.next
  goes_on step cells' marks' t k =
      let o = t.1.onward in
      let z = w.enough in
      record {
        es = entry_of step.cell ∷ w.es;
        fuel = next-fuel;
        same = before ∙ t.0 next-fuel w.es w.kept.agrees;
        enough = (let d : length s ≤ step.next + pred w.fuel = omega arith in d);
        inside = t.1.inside;
        kept = k w.es w.kept;
      }

-- the answer, and the cells after it
pub cleared_refused : (o : Reading) (e : Refusal) (cells : List ℕ) → o ≡ reading_refused e → cells ≡ replicate cell_limit 0
    → (report_read (Err e) ≡ answer_of o) × Held o cells
cleared_refused o e cells same z = (ap answer_of (sym same), subst (λ (r : Reading). Held r cells) (sym same) (held_refused cells z (number e.question) e.place))

-- the named cells are as many as the marks tell
pub counted : (s : List ℕ) (n k : ℕ) (cells marks : List ℕ) → Accepts (reading s) n cells marks → k ≡ mark_total marks
    → (report_read (Ok record { sectors = n; named = k }) ≡ answer_of (reading s)) × Held (reading s) cells
counted s n k cells marks a e =
    let total = named_total s n a.es a.same marks a.kept.agrees.same in
    (ap (λ (j : ℕ). accepts (n ∷ j ∷ [])) (e ∙ total) ∙ ap answer_of (sym a.same), subst (λ (r : Reading). Held r cells) (sym a.same) a.kept.held)
