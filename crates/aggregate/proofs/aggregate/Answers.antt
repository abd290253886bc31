-- Each output holds its part of the merged table where the call is accepted, and 0 where it is not. Assumes nothing.
use mathlib.Core.List.{List, [], ◌∷◌}
use mathlib.Core.Path.{◌≡◌, refl, sym, ap, ◌∙◌}
use Prim.Native.Nat.{ℕ}
use native.Mathlib.Omega.{arith}
use lib.ListN.{length}
use Rattle.std.specs.Prelude.{Result, Ok}
use Rattle.std.proofs.Common.{rules}
use Rattle.std.proofs.lemmas.Result.{err_from_is_err_and}
use Rattle.model.specs.Lent.{table_lent}
use Rattle.model.specs.Checks.{accepts, report, verdict}
use Rattle.model.specs.Aggregation.{aggregate_checks, aggregate_report}
use Rattle.model.specs.declared.Refusal.{Refusal}
use Rattle.model.specs.declared.Table.{Table}
use Rattle.theory_groups.proofs.Partitions.{sizes_are}
use Rattle.theory_groups.proofs.Aggregated.{Mergeable, accepted_known, aggregated}
use Rattle.table_balances.proofs.SliceLaws.{slices_lent}
use Rattle.aggregate.proofs.aggregate.Goals as goal

-- what a call whose questions pass knows of its table and its groups, by the slices that it is lent
module _ (t : Table) (groups x f e m v p g s : List ℕ) where
  abbrev matrices : List ℕ
  matrices = length x ∷ []

  abbrev lent : List ℕ
  lent = length f ∷ length e ∷ length m ∷ length v ∷ length p ∷ length g ∷ length s ∷ []

  module _ {answer : Result Unit Refusal} {u : Unit} (said : report answer ≡ verdict (aggregate_checks (table_lent t) groups matrices lent) []) (is-ok : answer ≡ Ok u) where
    accepted : accepts [] ≡ aggregate_report (table_lent t) groups matrices lent
    unfolding aggregate_report
    accepted = sym (ap report is-ok) ∙ said

    known : Mergeable t.sectors t.flows.now t.final_demand.now t.exports.now t.imports.now t.value_added.now t.production.now t.adjustment.now groups matrices lent
    known = accepted_known _ _ _ _ _ _ _ _ groups matrices lent accepted refl

pub returns-in_err-check_merging : goal.returns-in_err-check_merging
unfolding aggregate_report
returns-in_err-check_merging c =
    let p = err_from_is_err_and c.from_residual.result c.from_residual.ensures.1 in
    rw (p.1, p.2)
    (aggregated _ _ _ _ _ _ _ _ _ (sym (ap report c.in_err-check_merging.was) ∙ c.check_merging.ensures)
    (search rules) (search rules) (search rules) (search rules) (search rules) (search rules) (search rules) (search rules))

pub fill_merged-requires : goal.fill_merged-requires
fill_merged-requires c =
    let a = c.args in
    let M =
    known a.table.now a.groups.now a.merged_x.now a.merged_final_demand.now a.merged_exports.now a.merged_imports.now a.merged_value_added.now
    a.merged_production.now a.merged_adjustment.now a.sizes.now c.check_merging.ensures c.in_ok-check_merging.was in
    let l = M.slices in
    record {
      slices = slices_lent M.table.sizes M.table.small;
      counted = (M.some, M.few);
      merged_sizes = (
        c.fill.auto.self ∙ M.squares.0,
        c.fill-2.auto.self ∙ l.0,
        c.fill-3.auto.self ∙ l.1.0,
        c.fill-4.auto.self ∙ l.1.1.0,
        c.fill-5.auto.self ∙ l.1.1.1.0,
        c.fill-6.auto.self ∙ l.1.1.1.1.0,
        c.fill-7.auto.self ∙ l.1.1.1.1.1.0,
        c.fill-8.auto.self ∙ l.1.1.1.1.1.1.0,
      );
    }

pub returns : goal.returns
returns c =
    let a = c.args in
    let ok = c.in_ok-check_merging.was in
    let said = c.check_merging.ensures in
    let M =
    known a.table.now a.groups.now a.merged_x.now a.merged_final_demand.now a.merged_exports.now a.merged_imports.now a.merged_value_added.now
    a.merged_production.now a.merged_adjustment.now a.sizes.now said ok in
    let e = c.fill_merged.ensures in
    aggregated _ _ _ _ _ _ _ _ _
    (accepted a.table.now a.groups.now a.merged_x.now a.merged_final_demand.now a.merged_exports.now a.merged_imports.now a.merged_value_added.now
    a.merged_production.now a.merged_adjustment.now a.sizes.now said ok)
    e.flows e.final_demand e.exports e.imports e.value_added e.production e.adjustment
    (e.took ∙ sizes_are a.table.now.sectors a.groups.now M.parts (omega (arith, M.table.sizes.few)))
