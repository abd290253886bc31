-- A refusal is returned as it was answered. Assumes nothing.
use mathlib.Core.List.{List, [], ◌∷◌, ◌++◌, map}
use mathlib.Core.Path.{◌∙◌}
use Prim.Native.Nat.{ℕ}
use lib.ListN.{length}
use Rattle.std.proofs.lemmas.Result.{err_from_is_err_and}
use Rattle.model.specs.Table.{Table}
use Rattle.model.specs.Lent.{table_lent}
use Rattle.model.specs.Checks.{Check, size, lengths, table_amounts}
use Rattle.model.specs.Permutation.{entries_fresh}
use Rattle.theory.proofs.Verdicts.{answered_on, answered_stop}
use Rattle.permute_checks.proofs.check_called.Goals as goal

-- questions 1 and 2, and those after them
abbrev sizes : Table → (order matrices lent : List ℕ) → List Check
sizes t order matrices lent = size t.sectors ∷ lengths t.sectors (length t.flows ∷ matrices) (map length t.columns ++ (length order ∷ lent)) ∷ []

abbrev last : Table → (order : List ℕ) → List Check
last t order = entries_fresh t.sectors order ∷ []

pub returns-in_err-check_sizes : goal.returns-in_err-check_sizes
returns-in_err-check_sizes c =
    let a = c.args in
    let t = table_lent a.table.now in
    let lent = a.f_len ∷ a.e_len ∷ a.m_len ∷ a.v_len ∷ a.p_len ∷ a.g_len ∷ a.inverse_len ∷ [] in
    let p = err_from_is_err_and c.from_residual.result c.from_residual.ensures.1 in
    rw (p.1, p.2)
    (answered_stop (sizes t a.order.now (a.x_len ∷ []) lent) c.check_sizes.ensures (table_amounts t ++ last t a.order.now) [] c.in_err-check_sizes.was)

pub returns-in_err-check_amounts : goal.returns-in_err-check_amounts
returns-in_err-check_amounts c =
    let a = c.args in
    let t = table_lent a.table.now in
    let lent = a.f_len ∷ a.e_len ∷ a.m_len ∷ a.v_len ∷ a.p_len ∷ a.g_len ∷ a.inverse_len ∷ [] in
    let p = err_from_is_err_and c.from_residual-in_err-check_amounts.result c.from_residual-in_err-check_amounts.ensures.1 in
    rw (p.1, p.2)
    (answered_stop (table_amounts t) c.check_amounts.ensures (last t a.order.now) [] c.in_err-check_amounts.was
    ∙ answered_on (sizes t a.order.now (a.x_len ∷ []) lent) c.check_sizes.ensures (table_amounts t ++ last t a.order.now) [] c.in_ok-check_sizes.was)
