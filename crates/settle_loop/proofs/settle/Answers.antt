-- The amounts that a count comes with are the settled ones.
use Rattle.std.proofs.Common.{true, false, ℕ, ◌≡◌, refl, sym, rules}
use Rattle.std.specs.Prelude.{Result, Ok, Err}
use Rattle.std.specs.Result.{is_err}
use Rattle.model.specs.Checks.{report_rounds}
use Rattle.model.specs.declared.Refusal.{Refusal}
use Rattle.theory_rounds.proofs.Settling.{found}
use Rattle.cells.specs.Sheets.{sheet_of}
use Rattle.settle_loop.proofs.settle.Goals as goal

given : (r : Result ℕ Refusal) → is_err r ≡ false → (report_rounds r).accepted ≡ true
given (Ok k) e = refl
given (Err r) e = sym e

pub returns-else-is_err : goal.returns-else-is_err
returns-else-is_err c =
    let a = c.args in
    let r = c.run_rows-outcome in
    let t = given r.result (sym c.if-is_err.ensures.value) in
    let s = r.ensures.1 t in
    record {
      answer = r.ensures.0;
      outputs = rw t (sym (found a.d.now.sectors (sheet_of a.d.now) a.start.now a.budget s.0 s.1).1);
      cleared = search rules;
    }
