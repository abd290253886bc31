-- What `check_groups` needs was asked by then, and question 19 is asked of three columns. Assumes nothing.
use mathlib.Core.Bool.{Bool}
use mathlib.Core.List.{List, [], ◌∷◌, ◌++◌, map}
use mathlib.Core.Path.{◌≡◌, refl, ap, ◌∙◌}
use Prim.Native.Nat.{ℕ}
use native.Mathlib.Nat.{le_refl}
use lib.ListN.{length}
use Rattle.std.proofs.lemmas.Result.{err_from_is_err_and}
use Rattle.model.specs.Table.{Table}
use Rattle.model.specs.Lent.{table_lent}
use Rattle.model.specs.Checks.{Check, verdict, single, size, lengths, table_amounts, balance_checks}
use Rattle.model.specs.Aggregation.{group_lengths, partitioned, merged_within}
use Rattle.theory.proofs.Lists.{from_one}
use Rattle.theory.proofs.Verdicts.{answered_pass, answered_on, answered_stop, all_pass_parts, asked_both}
use Rattle.table_balances.specs.Slices.{SlicesLent}
use Rattle.theory_tables.proofs.Tables.{table_sizes, table_amounts_lem, balanced}
use Rattle.theory_groups.specs.Groups.{deciding_within}
use Rattle.theory_groups.proofs.Partitions.{partition}
use Rattle.theory_groups.proofs.Limits.{limits_same}
use Rattle.table_balances.proofs.SliceLaws.{slices_lent}
use Rattle.aggregate_checks.proofs.check_merging.Goals as goal

-- questions 1 and 2, and 3 to 6
abbrev sizes : Table → (groups merged lent : List ℕ) → List Check
sizes t groups merged lent = size t.sectors ∷ lengths t.sectors (length t.flows ∷ []) (map length t.columns) ∷ group_lengths t groups merged lent

abbrev contents : Table → List Check
contents t = table_amounts t ++ balance_checks t

abbrev last : Table → (groups : List ℕ) → List Check
last t groups = partitioned t groups ∷ merged_within t groups ∷ []

pub returns-in_err-check_lengths : goal.returns-in_err-check_lengths
returns-in_err-check_lengths c =
    let a = c.args in
    let t = table_lent a.table.now in
    let p = err_from_is_err_and c.from_residual.result c.from_residual.ensures.1 in
    rw (p.1, p.2)
    (answered_stop (sizes t a.groups.now a.merged.now a.lent.now) c.check_lengths.ensures (contents t ++ last t a.groups.now) [] c.in_err-check_lengths.was)

pub check_contents-requires : goal.check_contents-requires
check_contents-requires c =
    let a = c.args in
    let t = table_lent a.table.now in
    let z = answered_pass (sizes t a.groups.now a.merged.now a.lent.now) c.check_lengths.ensures c.in_ok-check_lengths.was in
    (table_sizes t [] [] z.0 z.1.0).0

pub returns-in_err-check_contents : goal.returns-in_err-check_contents
returns-in_err-check_contents c =
    let a = c.args in
    let t = table_lent a.table.now in
    let p = err_from_is_err_and c.from_residual-in_err-check_contents.result c.from_residual-in_err-check_contents.ensures.1 in
    rw (p.1, p.2)
    (answered_stop (contents t) c.check_contents.ensures (last t a.groups.now) [] c.in_err-check_contents.was
    ∙ answered_on (sizes t a.groups.now a.merged.now a.lent.now) c.check_lengths.ensures (contents t ++ last t a.groups.now) [] c.in_ok-check_lengths.was)

pub check_groups-requires : goal.check_groups-requires
check_groups-requires c =
    let a = c.args in
    let t = table_lent a.table.now in
    let z = answered_pass (sizes t a.groups.now a.merged.now a.lent.now) c.check_lengths.ensures c.in_ok-check_lengths.was in
    let p = all_pass_parts (table_amounts t) (balance_checks t) (answered_pass (contents t) c.check_contents.ensures c.in_ok-check_contents.was) in
    let l : SlicesLent a.table.now = slices_lent (table_sizes t [] [] z.0 z.1.0).0 (table_amounts_lem t p.0) in
    record { few = l.flows.few; final_demand = l.final_demand; imports = l.imports; production = l.production }

pub returns : goal.returns
returns c =
    let a = c.args in
    let t = table_lent a.table.now in
    let g = a.groups.now in
    let before = sizes t g a.merged.now a.lent.now in
    let z = answered_pass before c.check_lengths.ensures c.in_ok-check_lengths.was in
    let p = all_pass_parts (table_amounts t) (balance_checks t) (answered_pass (contents t) c.check_contents.ensures c.in_ok-check_contents.was) in
    let some = (from_one (length g) t.sectors (z.1.1.0 0 (le_refl 1))).0 in
    let three = deciding_within t.sectors g a.table.now.final_demand.now a.table.now.imports.now a.table.now.production.now in
    c.check_groups.ensures
    ∙ asked_both ◌≡◌ (partitioned t g) (single 19 three ∷ []) (merged_within t g ∷ []) [] [] (λ _. refl)
    (λ once. ap (λ (b : Bool). verdict (single 19 b ∷ []) []) (limits_same _ _ _ _ _ _ _ _ g (partition t g once).once some (balanced t p.1)))
    ∙ answered_on (contents t) c.check_contents.ensures (last t g) [] c.in_ok-check_contents.was
    ∙ answered_on before c.check_lengths.ensures (contents t ++ last t g) [] c.in_ok-check_lengths.was
