-- A call that has asked some checks and was answered, whatever the number: `answered_stop` and `answered_end` of `theory` are the same of a refusal by a
-- question. Assumes nothing.
use mathlib.Core.List.{List, [], ◌++◌}
use mathlib.Core.Path.{◌≡◌, sym, ◌∙◌}
use Prim.Native.Nat.{ℕ}
use lib.ListN.{length}
use Rattle.model.specs.Checks.{Report, Check, refuses, verdict}
use Rattle.theory.proofs.Verdicts.{refuse_on}

module _ (ps : List Check) {r : Report} (said : r ≡ verdict ps []) where
  pub told_stop : (qs : List Check) (ks : List ℕ) {q p : ℕ} → r ≡ refuses 0 q p → refuses (length ks) q p ≡ verdict (ps ++ qs) ks
  told_stop qs ks e = sym (refuse_on ps qs [] ks _ _ (sym said ∙ e))

  pub told_end : (qs : List Check) {q p : ℕ} → r ≡ refuses 0 q p → r ≡ verdict (ps ++ qs) []
  told_end qs e = e ∙ told_stop qs [] e
