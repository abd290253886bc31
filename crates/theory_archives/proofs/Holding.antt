-- The named cells of a table, as its writer takes them and as a reader returns them: both hold the table's cells, and nothing else. Assumes nothing.
use mathlib.Core.Bool.{Bool, true, false}
use mathlib.Core.List.{List, [], reverse, append-nil}
use mathlib.Core.Path.{◌≡◌, refl, sym, ap, ap₂, ◌∙◌, subst}
use Prim.Native.Nat.{ℕ, ◌+◌, ◌*◌, ◌-◌, ◌/◌, ◌%◌, ◌≤◌, ◌<◌}
use native.Mathlib.Omega.{arith}
use native.Mathlib.Nat.{zero-add, add-zero, mul-le-mul, lt_of_lt_of_le}
use borrow.Author.Tests.{ltb-true, ltb-false, lt-ltb, eqb-true, eq-eqb}
use lib.Dec.{eqb, ltb}
use lib.ListN.{length, get_or, take}
use lib.Seq.{length-take-le, get_or-take, ext_get_or}
use Rattle.model.specs.Numbers.{cell, at}
use Rattle.model.specs.Table.{Table, table_of, column, sector_limit, sheet_limit}
use Rattle.model.specs.File.{Entry, Within, column_kinds, kind_place, column_word, flows_of, column_of, table_named}
use Rattle.model.specs.Writer.{rows, words_entries, columns_by_kind, table_entries, order, Ascending}
use Rattle.theory.specs.Slices.{Columns}
use Rattle.theory.proofs.Lists.{made_tabulate}
use Rattle.theory.proofs.Matrices.{place_once, place_row, place_column, place_cell}
use Rattle.theory.proofs.Sums.{cell_in}
use Rattle.theory_tables.specs.Tables.{TableSizes}
use Rattle.theory_files.proofs.RecordKinds.{place_back}
use Rattle.theory_files.proofs.Encoding.{made}
use Rattle.theory_files.proofs.Readings.{AllWithin, Distinct}
use Rattle.theory_archives.proofs.Ascending.{amount_at, amount_append, amount_reversed, from_lower, Same}
use Rattle.theory_archives.proofs.Cells.{Known, words_ascending, words_away, words_amount, rows_count, rows_columns, rows-cell, slice_length, slice_cell}

-- a table of this many columns, whose slices have their lengths
pub record Fit (t : Table) : Type 0 where
  pub sizes : TableSizes t
  pub count : length t.columns ≡ length column_kinds

-- the named cells of a table: at each of its cells the amount
pub record Holds (es : List Entry) (t : Table) : Type 0 where
  pub flows : (i j : ℕ) → i < t.sectors → j < t.sectors → amount_at es (i * sector_limit + j) ≡ at t.sectors t.flows i j
  pub columns : (c j : ℕ) → c < length column_kinds → j < t.sectors → amount_at es (column_word c * sector_limit + j) ≡ cell (column t c) j

-- ---- what the writer takes of a table
module _ (t : Table) (f : Fit t) where
  abbrev n : ℕ
  n = t.sectors

  abbrev few : n ≤ sector_limit
  few = f.sizes.few

  abbrev flow-rows : List (List ℕ)
  flow-rows = rows n t.flows

  rows_long : Columns n flow-rows
  rows_long = rows_columns n t.flows f.sizes.flows

  rows_known : (w : ℕ) → w < n → Known n w
  rows_known w h = (omega (arith, few), λ _. h)

  -- the columns in the order of their kinds
  pub by_kind : (k : ℕ) → k < length column_kinds → get_or (columns_by_kind t) k [] ≡ column t (kind_place k)
  by_kind = made_tabulate [] (length column_kinds) (λ k. column t (kind_place k))

  pub by_kind_long : Columns n (columns_by_kind t)
  by_kind_long k h = ap length (by_kind k h) ∙ f.sizes.columns (kind_place k) (subst (λ (m : ℕ). kind_place k < m) (sym f.count) (place_back k h).0)

  columns_known : (w : ℕ) → sector_limit ≤ w → w < sector_limit + length column_kinds → Known n w
  columns_known w h l = (omega arith, λ g. absurd (omega arith))

  columns_ascending : Ascending n (sector_limit * sector_limit) (words_entries sector_limit (columns_by_kind t))
  columns_ascending =
      subst (Ascending n (sector_limit * sector_limit)) (append-nil (words_entries sector_limit (columns_by_kind t)))
      (words_ascending n few sector_limit (columns_by_kind t) by_kind_long columns_known [] tt)

  pub entries_ascending : Ascending n 0 (table_entries t)
  unfolding table_entries
  entries_ascending =
      let count = rows_count n t.flows in
      let small = few in
      words_ascending n few 0 flow-rows rows_long (λ w _ h. rows_known w (omega arith)) (words_entries sector_limit (columns_by_kind t))
      (from_lower n few ((0 + length flow-rows) * sector_limit) (sector_limit * sector_limit) (words_entries sector_limit (columns_by_kind t)) (omega arith) columns_ascending)

  pub entries_hold : Holds (table_entries t) t
  unfolding table_entries
  entries_hold =
      let count = rows_count n t.flows in
      let small = few in
      record {
        flows = λ i j h l.
            let r = i * sector_limit + j in
            let here : amount_at (words_entries 0 flow-rows) r ≡ at n t.flows i j =
            ap (λ (w : ℕ). amount_at (words_entries 0 flow-rows) (w * sector_limit + j)) (sym (zero-add i))
            ∙ words_amount n few 0 flow-rows rows_long i j (omega arith)
            ∙ rows-cell n t.flows i j h l
            in
            let away = words_away n few sector_limit (columns_by_kind t) by_kind_long r (λ w k a b c e. omega arith) in
            amount_append (words_entries 0 flow-rows) (words_entries sector_limit (columns_by_kind t)) r ∙ ap₂ ◌+◌ here away ∙ add-zero (at n t.flows i j);
        columns = λ c j h l.
            let r = column_word c * sector_limit + j in
            let back = place_back c h in
            let here : amount_at (words_entries sector_limit (columns_by_kind t)) r ≡ cell (column t c) j =
            words_amount n few sector_limit (columns_by_kind t) by_kind_long (kind_place c) j (omega arith)
            ∙ ap (λ (s : List ℕ). cell s j) (by_kind (kind_place c) back.0 ∙ ap (column t) back.1)
            in
            let away = words_away n few 0 flow-rows rows_long r (λ w k a b g e. omega arith) in
            amount_append (words_entries 0 flow-rows) (words_entries sector_limit (columns_by_kind t)) r ∙ ap₂ ◌+◌ away here ∙ zero-add (cell (column t c) j);
      }

-- ---- what the reader returns of named cells
-- column c of a reading, of those that it has
column_named : (k n : ℕ) (es : List Entry) (c : ℕ) → c < k → column (table_named k n es) c ≡ take n (column_of (column_word c) es)
column_named k n es c h = made_tabulate [] k (λ c. take n (column_of (column_word c) es)) c h

module _ (n : ℕ) (some : 1 ≤ n) (few : n ≤ sector_limit) where
  square : n * n ≤ sheet_limit
  square = mul-le-mul few few

  flows_inside : (e : Entry) → Within n e → ltb e.word sector_limit ≡ true → e.word * n + e.position < sheet_limit
  flows_inside e w h = lt_of_lt_of_le (cell_in n e.word e.position (w.row (ltb-true e.word sector_limit h)) w.place) square

  flows_once : (e f : Entry) → Within n e → Within n f → ltb e.word sector_limit ≡ true → ltb f.word sector_limit ≡ true
      → e.word * n + e.position ≡ f.word * n + f.position → order e ≡ order f
  flows_once e f w v h l q = let p = place_once n f.word f.position e.word e.position v.place w.place q in omega (arith, p.0, p.1)

  flows_length : (es : List Entry) → length (flows_of n es) ≡ sheet_limit
  flows_length = slice_length n few (flows_of n) (λ w. ltb w sector_limit) (λ w p. w * n + p) sheet_limit refl (λ e es. refl) flows_inside flows_once

  column_inside : (word : ℕ) (e : Entry) → Within n e → eqb e.word word ≡ true → e.position < sector_limit
  column_inside word e w h = lt_of_lt_of_le w.place few

  column_once : (word : ℕ) (e f : Entry) → Within n e → Within n f → eqb e.word word ≡ true → eqb f.word word ≡ true → e.position ≡ f.position → order e ≡ order f
  column_once word e f w v h l q = omega (arith, eqb-true e.word word h, eqb-true f.word word l, q)

  column_length : (word : ℕ) (es : List Entry) → length (column_of word es) ≡ sector_limit
  column_length word = slice_length n few (column_of word) (λ w. eqb w word) (λ w p. p) sector_limit refl (λ e es. refl) (column_inside word) (column_once word)

  -- a reading's table has slices of their lengths
  pub named_fit : (es : List Entry) → Fit (table_named (length column_kinds) n es)
  named_fit es = record {
    sizes = record {
      some = some;
      few = few;
      flows = length-take-le (n * n) (flows_of n es) (subst (λ (m : ℕ). n * n ≤ m) (sym (flows_length es)) square);
      columns = λ c h.
          ap length (column_named (length column_kinds) n es c h)
          ∙ length-take-le n (column_of (column_word c) es) (subst (λ (m : ℕ). n ≤ m) (sym (column_length (column_word c) es)) few);
    };
    count = refl;
  }

  pub named_hold : (es : List Entry) → Distinct es → AllWithin n es → Holds es (table_named (length column_kinds) n es)
  named_hold es d a = record {
    flows = λ i j h l.
        sym
        (get_or-take (n * n) (flows_of n es) (i * n + j) 0 (cell_in n i j h l)
        ∙ slice_cell n few (flows_of n) (λ w. ltb w sector_limit) (λ w p. w * n + p) sheet_limit refl (λ e es. refl) flows_inside flows_once es d a
        (made i j 0) (record { known = omega (arith, few); row = λ _. h; place = l }) (lt-ltb i sector_limit (omega (arith, few))));
    columns = λ c j h l.
        sym
        (ap (λ (s : List ℕ). cell s j) (column_named (length column_kinds) n es c h)
        ∙ get_or-take n (column_of (column_word c) es) j 0 l
        ∙ slice_cell n few (column_of (column_word c)) (λ w. eqb w (column_word c)) (λ w p. p) sector_limit refl (λ e es. refl) (column_inside (column_word c)) (column_once (column_word c)) es d a
        (made (column_word c) j 0) (record { known = omega (arith, (place_back c h).0); row = λ g. absurd (omega arith); place = l }) (eq-eqb (column_word c) (column_word c) refl));
  }

-- ---- cells alike, tables alike
pub table_same : (n : ℕ) (x y : List ℕ) (cs ds : List (List ℕ)) (es : List Entry) → Fit (table_of n x cs) → Fit (table_of n y ds)
    → Holds es (table_of n x cs) → Holds es (table_of n y ds) → table_of n x cs ≡ table_of n y ds
table_same n x y cs ds es f g h k = ap₂ (table_of n) flows columns
  where
    some : 1 ≤ n
    some = f.sizes.some

    flows : x ≡ y
    flows =
        ext_get_or 0 x y (f.sizes.flows ∙ sym g.sizes.flows)
        (λ i l.
        let low = subst (λ (m : ℕ). i < m) f.sizes.flows l in
        let row = place_row n i some low in
        let col = place_column n i some in
        sym (place_cell n x i) ∙ sym (h.flows (i / n) (i % n) row col) ∙ k.flows (i / n) (i % n) row col ∙ place_cell n y i)

    cells : (c : ℕ) → c < length column_kinds → get_or cs c [] ≡ get_or ds c []
    cells c l =
        let p = f.sizes.columns c (subst (λ (m : ℕ). c < m) (sym f.count) l) in
        let q = g.sizes.columns c (subst (λ (m : ℕ). c < m) (sym g.count) l) in
        ext_get_or 0 (get_or cs c []) (get_or ds c []) (p ∙ sym q) (λ j b. let low = subst (λ (m : ℕ). j < m) p b in sym (h.columns c j l low) ∙ k.columns c j l low)

    columns : cs ≡ ds
    columns = ext_get_or [] cs ds (f.count ∙ sym g.count) (λ c l. cells c (subst (λ (m : ℕ). c < m) f.count l))

pub holds_reversed : (es : List Entry) (t : Table) → Holds (reverse es) t → Holds es t
holds_reversed es t h = record { flows = λ i j l g. back (i * sector_limit + j) ∙ h.flows i j l g; columns = λ c j l g. back (column_word c * sector_limit + j) ∙ h.columns c j l g }
  where
    back : (r : ℕ) → amount_at es r ≡ amount_at (reverse es) r
    back r = sym (amount_reversed es [] r ∙ add-zero (amount_at es r))

-- named cells of one table have the same amounts
pub same : (n : ℕ) (few : n ≤ sector_limit) (es fs : List Entry) (t : Table) → t.sectors ≡ n → Holds es t → Holds fs t → Same n few es fs
same n few es fs t size h g e w = go (ltb e.word sector_limit) refl
  where
    inside : (i : ℕ) → i < n → i < t.sectors
    inside i l = subst (λ (m : ℕ). i < m) (sym size) l

    go : (b : Bool) → ltb e.word sector_limit ≡ b → amount_at es (order e) ≡ amount_at fs (order e)
    go true l =
        let row = inside e.word (w.row (ltb-true e.word sector_limit l)) in
        let col = inside e.position w.place in
        h.flows e.word e.position row col ∙ sym (g.flows e.word e.position row col)
    go false l =
        let low = ltb-false e.word sector_limit l in
        let high = w.known in
        let k = e.word - sector_limit in
        let c = kind_place k in
        let back = place_back k (omega arith) in
        let word : column_word c ≡ e.word = omega (arith, back.1) in
        let col = inside e.position w.place in
        ap (λ (v : ℕ). amount_at es (v * sector_limit + e.position)) (sym word)
        ∙ h.columns c e.position back.0 col
        ∙ sym (g.columns c e.position back.0 col)
        ∙ ap (λ (v : ℕ). amount_at fs (v * sector_limit + e.position)) word
