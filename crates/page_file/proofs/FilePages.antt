-- What is worked out of a file is its page. Assumes nothing.
use mathlib.Core.Bool.{false≢true}
use mathlib.Core.Path.{◌≡◌, refl, sym, ap, ap₂, ◌∙◌}
use mathlib.Core.List.{List, [], ◌∷◌, ◌++◌}
use Prim.Native.Nat.{ℕ, zero, suc, ◌*◌, ◌≤◌, ◌<◌}
use native.Mathlib.Nat.{le_step, lt-suc_self, mul-le-mul}
use native.Mathlib.Omega.{arith}
use lib.Dec.{lit<}
use lib.ListN.{length, take, drop, get_or-append}
use lib.Seq.{take-take}
use Rattle.model.specs.Numbers.{cell}
use Rattle.model.specs.Table.{Table, sector_limit, sheet_limit}
use Rattle.model.specs.Checks.{Report, accepts, refuses}
use Rattle.model.specs.File.{Entry, Reading, reading, flows_of, column_of, answer_of, column_kinds, column_word}
use Rattle.model.specs.Figures.{figures_report}
use Rattle.model.specs.Page.{headings, refusal_line, lines_to, sector_line, rounds_line, sheet, table_read, table_page, reading_page, page}
use Rattle.model.specs.Text.{line}
use Rattle.theory_files.specs.Files.{input_limit}
use Rattle.theory_files.proofs.RecordKinds.{place_back}
use Rattle.theory_files.proofs.Readings.{Answered, reading_answered}
use Rattle.file_walk.specs.Steps.{Held}
use Rattle.page_file.specs.Cells.{column_start, table_in}
use Rattle.page_figures.specs.Stages.{Figures}

-- ---- a sheet reads no cell beyond its sectors
lines_alike : (n : ℕ) (w u : ℕ → List ℕ) → ((i : ℕ) → i < n → w i ≡ u i) → lines_to n w ≡ lines_to n u
lines_alike zero w u h = refl
lines_alike (suc n) w u h = ap₂ (λ (a b : List ℕ). a ++ b) (lines_alike n w u (λ i l. h i (le_step l))) (h n (lt-suc_self n))

sheet_longer : (n : ℕ) (f y b i fs ys bs is : List ℕ) (k : ℕ) → n ≤ length f → n ≤ length y → n ≤ length b → n ≤ length i
    → sheet n (f ++ fs) (y ++ ys) (b ++ bs) (i ++ is) k ≡ sheet n f y b i k
unfolding sheet
sheet_longer n f y b i fs ys bs is k lf ly lb li =
    ap (λ (s : List ℕ). line headings ++ (s ++ rounds_line k)) (lines_alike n _ _ same)
  where
    same : (j : ℕ) → j < n → sector_line (f ++ fs) (y ++ ys) (b ++ bs) (i ++ is) j ≡ sector_line f y b i j
    same j h = rw (get_or-append f fs 0 j (omega arith), get_or-append y ys 0 j (omega arith), get_or-append b bs 0 j (omega arith), get_or-append i is 0 j (omega arith)) refl

-- ---- a table's page by its figures
module _ (t : Table) {s : Report} {f y b i : List ℕ} (w : Figures t s f y b i) where
  pub table_stop : {q p : ℕ} → s ≡ refuses 1 q p → refusal_line q p ≡ table_page t
  unfolding table_page
  table_stop {q} {p} g =
      let said : figures_report t ≡ refuses 1 q p = sym w.told ∙ g in
      rw said refl

  sheet_on : {k : ℕ} → s ≡ accepts (k ∷ []) → sheet t.sectors f y b i k ≡ table_page t
  unfolding table_page
  sheet_on {k} g =
      let yes = ap (λ (r : Report). r.accepted) g in
      let said : figures_report t ≡ accepts (k ∷ []) = sym w.told ∙ g in
      rw (w.demand yes, w.production yes, w.value yes, w.imports yes, said) refl

  -- from the start of longer lists
  pub table_on : {k : ℕ} (fs ys bs is : List ℕ) → s ≡ accepts (k ∷ [])
      → t.sectors ≤ length f → t.sectors ≤ length y → t.sectors ≤ length b → t.sectors ≤ length i
      → sheet t.sectors (f ++ fs) (y ++ ys) (b ++ bs) (i ++ is) k ≡ table_page t
  table_on {k} fs ys bs is g lf ly lb li = sheet_longer t.sectors f y b i fs ys bs is k lf ly lb li ∙ sheet_on g

-- ---- a file's page by what the reader answers and leaves in its cells
-- a refusal
reading_stop : (o : Reading) {q p : ℕ} → refuses 2 q p ≡ answer_of o → refusal_line q p ≡ reading_page o
reading_stop (Reading.refused a b) e = ap₂ refusal_line (ap (λ (r : Report). r.number) e) (ap (λ (r : Report). r.place) e)
reading_stop (Reading.table n es) e = absurd (false≢true (ap (λ (r : Report). r.accepted) e))

pub read_stop : (s : List ℕ) {q p : ℕ} → refuses 2 q p ≡ answer_of (reading s) → refusal_line q p ≡ page s
unfolding page
read_stop s e = reading_stop (reading s) e

-- the table that lies in the cells is the one that the file names
table_held : (n : ℕ) (es : List Entry) (cells : List ℕ) → n ≤ sector_limit → Held (Reading.table n es) cells → table_in n cells ≡ table_read n es
table_held n es cells few h =
    rw (flows, column 0 (lit< tt), column 1 (lit< tt), column 2 (lit< tt), column 3 (lit< tt), column 4 (lit< tt), column 5 (lit< tt)) refl
  where
    flows : take (n * n) cells ≡ take (n * n) (flows_of n es)
    flows = sym (take-take (n * n) sheet_limit cells (mul-le-mul few few)) ∙ ap (λ (l : List ℕ). take (n * n) l) h.flows

    column : (c : ℕ) → c < length column_kinds → take n (drop (column_start c) cells) ≡ take n (column_of (column_word c) es)
    column c few-columns =
        sym (take-take n sector_limit (drop (column_start c) cells) few)
        ∙ ap (λ (l : List ℕ). take n l) (h.columns (column_word c) (omega arith) (omega (arith, (place_back c few-columns).0)))

reading_on : (o : Reading) (most : ℕ) (cells : List ℕ) {n named : ℕ} → Answered most o → Held o cells → accepts (n ∷ named ∷ []) ≡ answer_of o
    → (n ≤ sector_limit) × (table_page (table_in n cells) ≡ reading_page o)
reading_on (Reading.refused q p) most cells a h e = absurd (false≢true (sym (ap (λ (r : Report). r.accepted) e)))
reading_on (Reading.table m es) most cells {n} a h e =
    let same : n ≡ m = ap (λ (r : Report). cell r.counts 0) e in
    rw same (a.1, ap table_page (table_held m es cells a.1 h))

module _ (s cells : List ℕ) {n named : ℕ} (said : accepts (n ∷ named ∷ []) ≡ answer_of (reading s)) (held : Held (reading s) cells) where
  pub read_few : n ≤ sector_limit
  read_few = (reading_on (reading s) input_limit cells (reading_answered s) held said).0

  pub read_on : table_page (table_in n cells) ≡ page s
  unfolding page
  read_on = (reading_on (reading s) input_limit cells (reading_answered s) held said).1
