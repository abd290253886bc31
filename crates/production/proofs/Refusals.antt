-- A call that has asked some checks and then settles, where one of them fails, whatever its number: `solved_stop` of `theory_rounds` is the same of a
-- refusal by a question. Assumes nothing.
use mathlib.Core.List.{List, [], ◌∷◌, ◌++◌}
use mathlib.Core.Path.{◌≡◌, sym, ap, ◌∙◌}
use Prim.Native.Nat.{ℕ}
use Rattle.model.specs.Checks.{Report, Check, output, refuses, verdict}
use Rattle.theory_rounds.specs.Search.{Solved, Cleared}
use Rattle.checks.proofs.Numbered.{told_stop}

pub refused_stop : (asked : List Check) {s : Report} → s ≡ verdict asked [] → (last : List Check) {count number place : ℕ} {result : List ℕ} {outs works : ℕ} {r : Report} {out work : List ℕ}
    → s ≡ refuses 0 number place → Cleared number place outs works r out work → Solved (asked ++ last) count result outs works r out work
refused_stop asked said last {count = count} {result = result} {outs = outs} e κ =
    record {
      answer = κ.answer ∙ told_stop asked said last (count ∷ []) e;
      outputs = κ.outputs ∙ sym (ap (λ (r : Report). output r outs result) κ.answer);
      cleared = κ.cleared;
    }
