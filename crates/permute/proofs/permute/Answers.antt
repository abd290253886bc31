-- Each output holds its part of the table in the new order where the call is accepted, and 0 where it is not. Assumes nothing.
use mathlib.Core.List.{List, [], ◌∷◌}
use mathlib.Core.Path.{◌≡◌, refl, sym, ap, ◌∙◌}
use Prim.Native.Nat.{ℕ}
use native.Mathlib.Omega.{arith}
use lib.ListN.{length}
use Rattle.std.specs.Prelude.{Result, Ok}
use Rattle.std.proofs.Common.{rules}
use Rattle.std.proofs.lemmas.Result.{err_from_is_err_and}
use Rattle.model.specs.Lent.{table_lent}
use Rattle.model.specs.Checks.{accepts, report, verdict}
use Rattle.model.specs.Permutation.{permute_checks, permute_report}
use Rattle.model.specs.declared.Refusal.{Refusal}
use Rattle.model.specs.declared.Table.{Table}
use Rattle.theory_orders.proofs.Orders.{entry_below}
use Rattle.theory_orders.proofs.Permuted.{Permutable, accepted_known, permuted}
use Rattle.permute.proofs.permute.Goals as goal

-- what a call whose questions pass knows of its table and its list, by the slices that it is lent
module _ (t : Table) (order x f e m v p g i : List ℕ) where
  abbrev matrices : List ℕ
  matrices = length x ∷ []

  abbrev lent : List ℕ
  lent = length f ∷ length e ∷ length m ∷ length v ∷ length p ∷ length g ∷ length i ∷ []

  module _ {answer : Result Unit Refusal} {u : Unit} (said : report answer ≡ verdict (permute_checks (table_lent t) order matrices lent) []) (is-ok : answer ≡ Ok u) where
    accepted : accepts [] ≡ permute_report (table_lent t) order matrices lent
    unfolding permute_report
    accepted = sym (ap report is-ok) ∙ said

    known : Permutable (table_lent t) order matrices lent
    known = accepted_known (table_lent t) order matrices lent accepted refl

pub returns-in_err-check_called : goal.returns-in_err-check_called
unfolding permute_report
returns-in_err-check_called c =
    let p = err_from_is_err_and c.from_residual.result c.from_residual.ensures.1 in
    let said =
    rw (c.fill.auto.self, c.fill-2.auto.self, c.fill-3.auto.self, c.fill-4.auto.self, c.fill-5.auto.self, c.fill-6.auto.self, c.fill-7.auto.self, c.fill-8.auto.self)
    at c.check_called.ensures in
    rw (p.1, p.2)
    (permuted _ _ _ _ _ _ _ _ _ (sym (ap report c.in_err-check_called.was) ∙ said)
    (search rules) (search rules) (search rules) (search rules) (search rules) (search rules) (search rules) (search rules))

pub fill_permuted-requires : goal.fill_permuted-requires
fill_permuted-requires c =
    let a = c.args in
    let P =
    known a.table.now a.order.now c.fill.new.self c.fill-2.new.self c.fill-3.new.self c.fill-4.new.self c.fill-5.new.self c.fill-6.new.self c.fill-7.new.self
    c.fill-8.new.self c.check_called.ensures c.in_ok-check_called.was in
    let z = P.sizes in
    let l = P.slices in
    record {
      few = (z.some, z.few);
      table_sizes = (
        z.flows,
        z.columns 0 (omega arith),
        z.columns 1 (omega arith),
        z.columns 2 (omega arith),
        z.columns 3 (omega arith),
        z.columns 4 (omega arith),
        z.columns 5 (omega arith),
        P.list,
      );
      in_table = entry_below a.table.now.sectors a.order.now P.fresh;
      permuted_sizes = (P.squares.0, l.0, l.1.0, l.1.1.0, l.1.1.1.0, l.1.1.1.1.0, l.1.1.1.1.1.0, l.1.1.1.1.1.1.0);
    }

pub returns : goal.returns
returns c =
    let a = c.args in
    let said =
    rw (c.fill.auto.self, c.fill-2.auto.self, c.fill-3.auto.self, c.fill-4.auto.self, c.fill-5.auto.self, c.fill-6.auto.self, c.fill-7.auto.self, c.fill-8.auto.self)
    at c.check_called.ensures in
    let e = c.fill_permuted.ensures in
    permuted _ _ _ _ _ _ _ _ _
    (accepted a.table.now a.order.now a.permuted_x.now a.permuted_final_demand.now a.permuted_exports.now a.permuted_imports.now a.permuted_value_added.now
    a.permuted_production.now a.permuted_adjustment.now a.inverse.now said c.in_ok-check_called.was)
    e.flows e.final_demand e.exports e.imports e.value_added e.production e.adjustment e.list
