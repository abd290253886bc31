-- What is promised of a written file: reading it returns the table, it is the only file of its form for that table, and equal bytes are equal
-- tables. Assumes nothing.
use mathlib.Core.Bool.{true}
use mathlib.Core.List.{List, [], ◌∷◌, map, reverse, reverse-reverse, append_assoc}
use mathlib.Core.Logic.{◌↔◌}
use mathlib.Core.Path.{◌≡◌, refl, sym, ap, ap₂, ◌∙◌, subst}
use Prim.Native.Nat.{ℕ, zero, suc, ◌+◌, ◌*◌, ◌-◌, ◌≤◌, ◌<◌}
use native.Mathlib.Omega.{arith}
use native.Mathlib.Nat.{not-suc-le-zero}
use borrow.Author.Tests.{eq-eqb, le-leb}
use lib.Dec.{eqb, lit≤}
use lib.ListN.{length, take, replicate, get_or-replicate, length-append, length-replicate, length-reverse, get_or-map}
use lib.Seq.{take_at}
use Rattle.model.specs.Numbers.{cell}
use Rattle.model.specs.Table.{Table, table_of, sector_limit, sheet_limit}
use Rattle.model.specs.Checks.{Report, accepts, output, bytes_of, table_amounts}
use Rattle.model.specs.File.{Entry, encode, encode_all, file_of, file_limit, column_kinds, Reading, reading, table_named, fits, called, answer_of}
use Rattle.model.specs.Writer.{table_entries, written, file_bytes, writer_checks, writer_report, Ascending, InForm, returned}
use Rattle.model.specs.CallContracts.{Slices, columns_of, reading_into, Delivered, FileRead, table_from, Archived, FileWritten}
use Rattle.theory.proofs.Lists.{from_one, all_passed}
use Rattle.theory.proofs.Verdicts.{AllPass, accepted_all, all_accepted, accepted_counts, output_given, size_passes, lengths_pass}
use Rattle.theory_tables.specs.Tables.{TableAmounts}
use Rattle.theory_tables.proofs.Tables.{table_sizes, table_amounts_lem}
use Rattle.theory_files.specs.Files.{input_limit}
use Rattle.theory_files.proofs.Files.{Fresh, ended, read_then, read_back}
use Rattle.theory_files.proofs.Readings.{Answered, reading_answered}
use Rattle.theory_files.proofs.Lengths.{accepted_length}
use Rattle.theory_files.proofs.Decoding.{Octets, decoded}
use Rattle.theory_archives.proofs.Ascending.{told, fresh, distinct_reversed}
use Rattle.theory_archives.proofs.Holding.{Fit, Holds, entries_ascending, entries_hold, named_fit, named_hold, table_same, holds_reversed, same}

-- ---- a file of the form
module _ (n : ℕ) (es : List Entry) (some : 1 ≤ n) (few : n ≤ sector_limit) (ascends : Ascending n 0 es) where
  all_fresh : Fresh n [] es
  all_fresh = fresh n few 0 [] es tt ascends

  -- it is read back
  pub form_read : reading (file_of n es) ≡ Reading.table n (reverse es)
  form_read = read_back n es some few all_fresh

  form_hold : Holds es (table_named (length column_kinds) n (reverse es))
  form_hold =
      let d = distinct_reversed n es [] all_fresh (tt, tt) in
      holds_reversed es (table_named (length column_kinds) n (reverse es)) (named_hold n some few (reverse es) d.0 d.1)

  -- and reads as a table whose only file of this form it is
  pub form_written : file_of n es ≡ written (table_named (length column_kinds) n (reverse es))
  unfolding written
  form_written =
      let t = table_named (length column_kinds) n (reverse es) in
      let f = named_fit n some few (reverse es) in
      ap (file_of n) (told n few 0 es (table_entries t) ascends (entries_ascending t f) (same n few es (table_entries t) t refl form_hold (entries_hold t f)))

-- ---- the file of a table
-- the offset at which a reading found kind 8 to end, of 12,883 bytes
abbrev end_of : Reading → ℕ
end_of (Reading.refused q p) = p
end_of (Reading.table n es) = file_limit

end_is : (n : ℕ) (es : List Entry) (end : ℕ) (rest : List ℕ) → end + length rest ≡ file_limit → end_of (ended n es end rest) ≡ end
end_is n es end [] e = omega arith
end_is n es end (_ ∷ _) e = refl

module _ (t : Table) (f : Fit t) where
  abbrev zeros : List ℕ
  zeros = replicate (file_limit - length (written t)) 0

  pub written_read : reading (written t) ≡ Reading.table t.sectors (reverse (table_entries t))
  unfolding written
  written_read = form_read t.sectors (table_entries t) f.sizes.some f.sizes.few (entries_ascending t f)

  -- Theorem, for the reader: "Reading a written file returns the table"
  pub written_returns : returned (reading (written t)) ≡ t
  written_returns =
      let es = table_entries t in
      ap returned written_read
      ∙ table_same t.sectors _ t.flows _ t.columns es (named_fit t.sectors f.sizes.some f.sizes.few (reverse es)) f
      (form_hold t.sectors es f.sizes.some f.sizes.few (entries_ascending t f)) (entries_hold t f)

  -- Theorem, for the reader: it never exceeds 12,883 bytes
  pub written-fits : length (written t) ≤ file_limit
  written-fits = accepted_length (written t) t.sectors (reverse (table_entries t)) written_read

  -- Theorem, for the reader: it has the form
  pub written_form : InForm (written t)
  unfolding written
  written_form = record {
    sectors = t.sectors;
    entries = table_entries t;
    sized = rw (le-leb 1 t.sectors f.sizes.some) (le-leb t.sectors sector_limit f.sizes.few);
    ascending = entries_ascending t f;
    bytes = refl;
  }

  -- the bytes that are lent, read as a whole
  bytes_read : reading (file_bytes t) ≡ ended t.sectors (reverse (table_entries t)) (length (written t)) zeros
  unfolding file_bytes written file_of
  bytes_read =
      let es = table_entries t in
      ap (λ (s : List ℕ). reading (1 ∷ t.sectors ∷ s)) (append_assoc (encode_all es) (8 ∷ []) zeros)
      ∙ read_then t.sectors es zeros f.sizes.some f.sizes.few (fresh t.sectors f.sizes.few 0 [] es tt (entries_ascending t f))
      ∙ ap (λ (k : ℕ). ended t.sectors (reverse es) k zeros) (omega (arith, length-append (encode_all es) (8 ∷ [])))

  bytes_end : end_of (reading (file_bytes t)) ≡ length (written t)
  bytes_end =
      ap end_of bytes_read
      ∙ end_is t.sectors (reverse (table_entries t)) (length (written t)) zeros
      (omega (arith, written-fits, length-replicate {A = ℕ} (file_limit - length (written t)) 0))

  pub bytes_file : take (length (written t)) (file_bytes t) ≡ written t
  unfolding file_bytes
  bytes_file = take_at (written t) zeros (length (written t)) refl

-- Theorem, for the reader: a file of the form that reads as a table is that table's written file
pub only_form : (z : List ℕ) → InForm z → (t : Table) → returned (reading z) ≡ t → z ≡ written t
only_form z q t e =
    let n = q.sectors in
    let es = q.entries in
    let size = from_one n sector_limit q.sized in
    let reads : returned (reading z) ≡ table_named (length column_kinds) n (reverse es) =
    ap (λ (s : List ℕ). returned (reading s)) q.bytes ∙ ap returned (form_read n es size.0 size.1 q.ascending)
    in
    q.bytes ∙ form_written n es size.0 size.1 q.ascending ∙ ap written (sym reads ∙ e)

-- Theorem, for the reader: every accepted file whose cells come in ascending order, none of them 0, has the form
pub ascending_form : (z : List ℕ) → Octets z → (n : ℕ) (es : List Entry) → reading z ≡ Reading.table n (reverse es) → Ascending n 0 es → InForm z
ascending_form z small n es e a =
    let answered : Answered input_limit (Reading.table n (reverse es)) = subst (Answered input_limit) e (reading_answered z) in
    record {
      sectors = n;
      entries = es;
      sized = rw (le-leb 1 n answered.0) (le-leb n sector_limit answered.1);
      ascending = a;
      bytes = decoded z small n (reverse es) e ∙ ap (file_of n) (reverse-reverse es);
    }

-- Theorems, for the reader: "Two written files have equal bytes exactly when n and all cells are equal", of the files and of all bytes that are lent
module _ (t u : Table) (f : Fit t) (g : Fit u) where
  pub written_once : (written t ≡ written u) ↔ (t ≡ u)
  written_once = (λ e. sym (written_returns t f) ∙ ap (λ (s : List ℕ). returned (reading s)) e ∙ written_returns u g, ap written)

  pub bytes_once : (file_bytes t ≡ file_bytes u) ↔ (t ≡ u)
  bytes_once = (
    λ e.
        let long : length (written t) ≡ length (written u) = sym (bytes_end t f) ∙ ap (λ (s : List ℕ). end_of (reading s)) e ∙ bytes_end u g in
        written_once.0 (sym (bytes_file t f) ∙ ap₂ take long e ∙ bytes_file u g),
    ap file_bytes,
  )

-- ---- the call
-- questions 1 and 2 say that a table fits, and the other way round
module _ (n : ℕ) (s : Slices) (len : ℕ) where
  abbrev t : Table
  t = table_from n s

  pub accepted_fit : AllPass (writer_checks t len) → Fit t × TableAmounts t
  accepted_fit (p, (q, (_, amounts))) = (record { sizes = (table_sizes t [] [] p q).0; count = refl }, table_amounts_lem t amounts)

  fit_accepted : Fit t → len ≡ file_limit → AllPass (table_amounts t) → AllPass (writer_checks t len)
  fit_accepted f e amounts = (
    size_passes n (length s.flows ∷ []) (map length (columns_of s)) f.sizes.some f.sizes.few,
    (
      lengths_pass n (length s.flows ∷ []) (map length (columns_of s)) (rw (eq-eqb (n * n) (length s.flows) (sym f.sizes.flows)) refl)
          (all_passed (eqb n) (map length (columns_of s)) (λ c h. eq-eqb n _ (sym (get_or-map length (columns_of s) c [] ∙ f.sizes.columns c h)))),
      (λ _ _. eq-eqb file_limit len (sym e), amounts),
    ),
  )

-- what an accepted call knows of its table
report_fit : (n : ℕ) (s : Slices) (len : ℕ) → (writer_report (table_from n s) len).accepted ≡ true → Fit (table_from n s)
unfolding writer_report
report_fit n s len a = (accepted_fit n s len (accepted_all (writer_checks (table_from n s) len) (length (written (table_from n s)) ∷ []) a)).0

report_counts : (t : Table) (len : ℕ) → (writer_report t len).accepted ≡ true → (writer_report t len).counts ≡ length (written t) ∷ []
unfolding writer_report
report_counts t len a = accepted_counts (writer_checks t len) (length (written t) ∷ []) a

-- Theorem, for the reader: what is promised of the file of a table that is accepted
pub archived : (n : ℕ) (s : Slices) → Fit (table_from n s) → Archived (table_from n s) (written (table_from n s)) (file_bytes (table_from n s))
archived n s f =
    let t = table_from n s in
    record {
      fits = written-fits t f;
      accepted = written_read t f;
      returns = written_returns t f;
      form = written_form t f;
      only = λ z q. only_form z q t;
      equal_files = λ m u a. written_once t (table_from m u) f (report_fit m u file_limit a);
      equal_bytes = λ m u a. bytes_once t (table_from m u) f (report_fit m u file_limit a);
    }

-- Theorem, for the reader: "what was read from any accepted file whose amounts pass question 3" is accepted
pub rewritten : (n : ℕ) (s : Slices) (z : List ℕ) (es : List Entry) → reading z ≡ Reading.table n es → returned (reading z) ≡ table_from n s
    → AllPass (table_amounts (table_from n s)) → (writer_report (table_from n s) file_limit).accepted ≡ true
unfolding writer_report
rewritten n s z es e same amounts =
    let answered : Answered input_limit (Reading.table n es) = subst (Answered input_limit) e (reading_answered z) in
    let fit : Fit (table_from n s) = subst Fit (sym (ap returned e) ∙ same) (named_fit n answered.0 answered.1 es) in
    ap (λ (r : Report). r.accepted)
    (all_accepted (writer_checks (table_from n s) file_limit) (length (written (table_from n s)) ∷ []) (fit_accepted n s file_limit fit refl amounts))

-- what the call promises, of its answer and of the bytes that it leaves
pub file_written : (n : ℕ) (s : Slices) {file₀ file : List ℕ} {r : Report} → r ≡ writer_report (table_from n s) (length file₀)
    → file ≡ output r (length file₀) (file_bytes (table_from n s)) → FileWritten n s file₀ r file
file_written n s {file₀} {file} {r} answer outputs =
    record {
      answer = answer;
      outputs = outputs;
      archived = λ a.
          let accepted = sym (ap (λ (q : Report). q.accepted) answer) ∙ a in
          let f = report_fit n s (length file₀) accepted in
          let bytes : file ≡ file_bytes t = outputs ∙ output_given r (length file₀) (file_bytes t) a in
          let count : bytes_of r ≡ length (written t) = ap bytes_of answer ∙ ap (λ (ks : List ℕ). cell ks 0) (report_counts t (length file₀) accepted) in
          let part : take (bytes_of r) file ≡ written t = ap₂ take count bytes ∙ bytes_file t f in
          rw (part, bytes) (archived n s f);
      rewrites = λ z es e same amounts long.
          ap (λ (q : Report). q.accepted) answer
          ∙ ap (λ (k : ℕ). (writer_report t k).accepted) long
          ∙ rewritten n s z es e same (accepted_all (table_amounts t) [] amounts);
    }
  where
    t : Table
    t = table_from n s

-- ---- the two calls
-- Theorem, for the reader: `read_table` of the file, with slices of their lengths, tells n and how many cells are not 0, and leaves every cell of the table
module _ (n : ℕ) (s : Slices) (f : Fit (table_from n s)) (s₀ s' : Slices) (marks₀ marks : List ℕ) (r : Report)
    (reads : FileRead (written (table_from n s)) s₀ marks₀ r s' marks)
    (lent : fits (length s₀.flows) (map length (columns_of s₀)) (length marks₀) ≡ true)
  where
    reading_into_lem : reading_into (written (table_from n s)) s₀ marks₀ ≡ Reading.table n (reverse (table_entries (table_from n s)))
    unfolding called
    reading_into_lem = rw lent (written_read (table_from n s) f)

    pub read_accepts : r ≡ accepts (n ∷ length (table_entries (table_from n s)) ∷ [])
    read_accepts =
        reads.answer ∙ ap answer_of reading_into_lem
        ∙ ap (λ (k : ℕ). accepts (n ∷ k ∷ [])) (length-reverse (table_entries (table_from n s)))

    pub read_returns : table_of n (take (n * n) s'.flows) (map (take n) (columns_of s')) ≡ table_from n s
    read_returns =
        let d = subst (λ (o : Reading). Delivered o s₀ s') reading_into_lem reads.delivered in
        rw (d.flows, d.final_demand, d.exports, d.imports, d.value_added, d.production, d.adjustment, d.rises)
        (ap returned (sym (written_read (table_from n s) f)) ∙ written_returns (table_from n s) f)

-- Theorem, for the reader: the 12,883 lent bytes as a whole are no table file, unless the file fills them: bytes follow its end
pub bytes_follow : (t : Table) → Fit t → length (written t) < file_limit → reading (file_bytes t) ≡ Reading.refused 15 (length (written t))
bytes_follow t f h = bytes_read t f ∙ follow (file_limit - length (written t)) (omega arith)
  where
    follow : (k : ℕ) → 0 < k → ended t.sectors (reverse (table_entries t)) (length (written t)) (replicate k 0) ≡ Reading.refused 15 (length (written t))
    follow zero l = absurd (not-suc-le-zero l)
    follow (suc k) l = refl

-- ---- the longest file
-- a table of 40 sectors in which no cell is 0
abbrev full_table : Table
full_table = table_of sector_limit (replicate sheet_limit 1) (replicate (length column_kinds) (replicate sector_limit 1))

full_fit : Fit full_table
full_fit = record {
  sizes = record {
    some = lit≤ tt;
    few = lit≤ tt;
    flows = refl;
    columns = λ c h. ap length (get_or-replicate (length column_kinds) c (replicate sector_limit 1) [] h);
  };
  count = refl;
}

-- Theorem, for the reader: the bound is reached, and so 12,883 bytes are "now the longest accepted file"
pub longest : (length (written full_table) ≡ file_limit) × (reading (written full_table) ≡ Reading.table sector_limit (reverse (table_entries full_table)))
unfolding written table_entries encode file_of
longest = (refl, written_read full_table full_fit)
