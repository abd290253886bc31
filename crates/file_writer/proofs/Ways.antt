-- The ways out of `write_table`. Assumes nothing.
use Rattle.std.proofs.Common.{Result, Ok, Err}
use mathlib.Core.List.{List, [], ◌∷◌}
use mathlib.Core.Path.{◌≡◌, sym, ap, ◌∙◌}
use Prim.Native.Nat.{ℕ, ◌≤◌}
use native.Mathlib.Omega.{arith}
use borrow.Author.Tests.{eqb-true}
use lib.Dec.{lit<}
use lib.ListN.{length, replicate, length-replicate}
use lib.Seq.{sets}
use Rattle.model.specs.Table.{Table}
use Rattle.model.specs.Checks.{Check, accepts, refuses, report, verdict}
use Rattle.model.specs.File.{file_limit}
use Rattle.model.specs.Writer.{written, file_bytes, writer_checks, writer_report}
use Rattle.model.specs.CallContracts.{Slices, table_from, FileWritten}
use Rattle.model.specs.Questions.{number}
use Rattle.model.specs.declared.Refusal.{Refusal}
use Rattle.theory.proofs.Verdicts.{AllPass, answered_pass, answered_on, answered_stop}
use Rattle.theory.proofs.Stores.{over_zeros}
use Rattle.theory_tables.specs.Tables.{TableSizes, TableAmounts}
use Rattle.theory_archives.proofs.Archives.{written-fits, accepted_fit, file_written}

-- ---- the call: it has set the lent bytes l to 0, which then are z, and its checks were answered a
pub record Asked (n : ℕ) (s : Slices) (l z : List ℕ) (a : Result Unit Refusal) : Type 0 where
  pub clear : z ≡ replicate (length l) 0
  pub said : report a ≡ verdict (writer_checks (table_from n s) (length z)) []

module _ {n : ℕ} {s : Slices} {l z : List ℕ} {a : Result Unit Refusal} (k : Asked n s l z a) where
  abbrev t : Table
  t = table_from n s

  abbrev checks : List Check
  checks = writer_checks t (length z)

  same : length z ≡ length l
  same = ap length k.clear ∙ length-replicate {A = ℕ} (length l) 0

  passed : {u : Unit} → a ≡ Ok u → AllPass checks
  passed = answered_pass checks k.said

  long : {u : Unit} → a ≡ Ok u → file_limit ≡ length z
  long e = eqb-true file_limit (length z) ((passed e).1.1.0 0 (lit< tt))

  fits : {u : Unit} → a ≡ Ok u → length (written t) ≤ file_limit
  fits e = written-fits t (accepted_fit n s (length z) (passed e)).0

  -- where it is refused, where it goes on to write the table, and where the table is written
  pub call_stop : {e : Refusal} → a ≡ Err e → FileWritten n s l (refuses 1 (number e.question) e.place) z
  unfolding writer_report
  call_stop e = file_written n s (answered_stop checks k.said [] (length (written t) ∷ []) e ∙ ap (writer_report t) same) k.clear

  pub call_ready : {u : Unit} → a ≡ Ok u → TableSizes t × TableAmounts t × (length (written t) ≤ length z)
  call_ready e = let f = accepted_fit n s (length z) (passed e) in (f.0.sizes, f.1, omega (arith, fits e, long e))

  pub call_on : {m : List ℕ} {j : ℕ} {u : Unit} → a ≡ Ok u → (j ≡ length (written t)) × (m ≡ sets z 0 (written t)) → FileWritten n s l (accepts (j ∷ [])) m
  unfolding writer_report file_bytes
  call_on e w =
      let zeros : z ≡ replicate file_limit 0 = k.clear ∙ ap (λ (i : ℕ). replicate i 0) (sym same ∙ sym (long e)) in
      file_written n s
      (ap (λ (i : ℕ). accepts (i ∷ [])) w.0 ∙ answered_on checks k.said [] (length (written t) ∷ []) e ∙ ap (writer_report t) same)
      (w.1 ∙ ap (λ (b : List ℕ). sets b 0 (written t)) zeros ∙ over_zeros file_limit (written t) (fits e))
