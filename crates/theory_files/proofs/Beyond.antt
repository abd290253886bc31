-- "Cells beyond n are 0": of every file that is read as a table of n sectors, each cell of x from n × n on, and of each column from n on. Assumes nothing.
use mathlib.Core.Bool.{Bool, true, false, cond}
use mathlib.Core.List.{List, [], ◌∷◌}
use mathlib.Core.Path.{◌≡◌, refl, sym, ap, ◌∙◌}
use Prim.Native.Nat.{ℕ, zero, suc, ◌+◌, ◌*◌, ◌≤◌, ◌<◌, zero-le}
use native.Mathlib.Nat.{lt_of_lt_of_le, ne_of_lt}
use borrow.Author.Tests.{ltb-true}
use lib.Dec.{eqb, ltb, lit≤}
use lib.ListN.{get_or, set}
use lib.Seq.{get_or-set_other}
use Rattle.model.specs.Numbers.{cell}
use Rattle.model.specs.Table.{sector_limit, sheet_limit}
use Rattle.model.specs.Checks.{sectors_of}
use Rattle.model.specs.File.{Entry, Reading, reading, fits, called, answer_of, flows_of, column_of, flows_read, column_read, column_word}
use Rattle.model.specs.CallContracts.{Slices, columns_of, reading_into, Delivered, Beyond}
use Rattle.theory_files.specs.Files.{input_limit}
use Rattle.theory.proofs.Sums.{cell_in}
use Rattle.theory.proofs.Lists.{cell_zeros}
use Rattle.theory_files.proofs.Readings.{AllWithin, Answered, reading_answered}

-- a cell past one that was written is as before
past : (l : List ℕ) (i k a : ℕ) → i < k → cell l k ≡ 0 → cell (set l i a) k ≡ 0
past l i k a h z = get_or-set_other l i k a 0 (λ e. ne_of_lt h (sym e)) ∙ z

either : (b : Bool) (l m : List ℕ) (k : ℕ) → (b ≡ true → cell l k ≡ 0) → cell m k ≡ 0 → cell (cond b l m) k ≡ 0
either true l m k p q = p refl
either false l m k p q = q

module _ (n : ℕ) where
  flows_beyond : (es : List Entry) → AllWithin n es → (k : ℕ) → n * n ≤ k → cell (flows_of n es) k ≡ 0
  flows_beyond [] w k h = cell_zeros sheet_limit k
  flows_beyond (e ∷ es) (w, ws) k h =
      let rest = flows_beyond es ws k h in
      either (ltb e.word sector_limit) _ _ k
      (λ row.
      let low = cell_in n e.word e.position (w.row (ltb-true e.word sector_limit row)) w.place in
      past (flows_of n es) (e.word * n + e.position) k e.amount (lt_of_lt_of_le low h) rest)
      rest

  column_beyond : (word : ℕ) (es : List Entry) → AllWithin n es → (k : ℕ) → n ≤ k → cell (column_of word es) k ≡ 0
  column_beyond word [] w k h = cell_zeros sector_limit k
  column_beyond word (e ∷ es) (w, ws) k h =
      let rest = column_beyond word es ws k h in
      either (eqb e.word word) _ _ k (λ _. past (column_of word es) e.position k e.amount (lt_of_lt_of_le w.place h) rest) rest

-- ---- in the slices
abbrev Zero : ℕ → List ℕ → Type 0
Zero n l = (k : ℕ) → n ≤ k → cell l k ≡ 0

-- each of a list of slices
abbrev Zeros : ℕ → List (List ℕ) → Type 0
Zeros n [] = Unit {0}
Zeros n (l ∷ ls) = Zero n l × Zeros n ls

each : (n : ℕ) (ls : List (List ℕ)) → Zeros n ls → (c : ℕ) → Zero n (get_or ls c [])
each n [] zs c = λ k h. refl
each n (l ∷ ls) zs zero = zs.0
each n (l ∷ ls) zs (suc c) = each n ls zs.1 c

same : {n : ℕ} {l m : List ℕ} → l ≡ m → Zero n m → Zero n l
same e z k h = ap (λ (x : List ℕ). cell x k) e ∙ z k h

-- of a reading, by the n that it tells
module _ (o : Reading) where
  abbrev told : ℕ
  told = sectors_of (answer_of o)

flows_left : (len most : ℕ) (o : Reading) → Answered most o → Zero (told o * told o) (flows_read len o)
flows_left len most (Reading.refused q p) a = λ k h. cell_zeros len k
flows_left len most (Reading.table n es) a = flows_beyond n es a.2

column_left : (word len most : ℕ) (o : Reading) → Answered most o → Zero (told o) (column_read word len o)
column_left word len most (Reading.refused q p) a = λ k h. cell_zeros len k
column_left word len most (Reading.table n es) a = column_beyond n word es a.2

-- the call may be refused by 2 too
pub called_answered : (x : ℕ) (columns : List ℕ) (marks : ℕ) (s : List ℕ) → Answered input_limit (called x columns marks s)
unfolding called
called_answered x columns marks s = split (fits x columns marks)
  where
    split : (b : Bool) → Answered input_limit (cond b (reading s) (Reading.refused 2 0))
    split true = reading_answered s
    split false = (lit≤ tt, lit≤ tt, zero-le)

-- "Cells beyond n are 0", whatever the file, the slices and their lengths
pub beyond : (file : List ℕ) (s₀ : Slices) (marks₀ : List ℕ) (s : Slices) → Delivered (reading_into file s₀ marks₀) s₀ s
    → Beyond (told (reading_into file s₀ marks₀)) s
beyond file s₀ marks₀ s d =
    record {
      flows = same d.flows (flows_left _ input_limit o a);
      columns =
          each (told o) (columns_of s) (
            column 0 _ d.final_demand,
            (column 1 _ d.exports, (column 2 _ d.imports, (column 3 _ d.value_added, (column 4 _ d.production, (column 5 _ d.adjustment, (column 6 _ d.rises, tt)))))),
          );
    }
  where
    o : Reading
    o = reading_into file s₀ marks₀

    a : Answered input_limit o
    a = called_answered _ _ _ file

    column : (c len : ℕ) {l : List ℕ} → l ≡ column_read (column_word c) len o → Zero (told o) l
    column c len e = same e (column_left (column_word c) len input_limit o a)
