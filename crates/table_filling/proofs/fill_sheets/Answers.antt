-- Each sheet is made of those before it, of a table that passed. Assumes nothing.
use mathlib.Core.List.{List, [], ◌∷◌}
use mathlib.Core.Path.{ap, ◌∙◌}
use Prim.Native.Nat.{ℕ}
use Rattle.std.proofs.lemmas.Result.{err_from_is_err_and}
use Rattle.model.specs.Numbers.{at}
use Rattle.model.specs.Table.{domestic_demand}
use Rattle.model.specs.Lent.{table_lent}
use Rattle.model.specs.Checks.{Check, verdict, column_sums}
use Rattle.model.specs.Calls.{coefficients_report, domestic_coefficients}
use Rattle.model.specs.declared.Table.{Table}
use Rattle.theory.proofs.Verdicts.{answered_on, answered_stop}
use Rattle.theory_tables.proofs.Tables.{domestic_from}
use Rattle.table_filling.proofs.Passed.{asked, passed}
use Rattle.table_filling.proofs.fill_sheets.Goals as goal

-- question 7
abbrev last : Table → List Check
last t = column_sums t.sectors (at t.sectors (domestic_coefficients (table_lent t))) ∷ []

pub returns-in_err-check_called-clause-answer : goal.returns-in_err-check_called-clause-answer
unfolding coefficients_report
returns-in_err-check_called-clause-answer c =
    let a = c.args in
    let p = err_from_is_err_and c.from_residual.result c.from_residual.ensures.1 in
    rw (p.1, p.2) (answered_stop (asked a.table.now a.a.now a.v.now a.m.now a.d.now a.f.now) c.check_called.ensures (last a.table.now) [] c.in_err-check_called.was)

pub fill_inputs-requires : goal.fill_inputs-requires
fill_inputs-requires c =
    let a = c.args in
    let p = passed a.table.now a.a.now a.v.now a.m.now a.d.now a.f.now c.check_called.ensures c.in_ok-check_called.was in
    record { some = p.lent.some; flows = p.lent.flows; production = p.lent.production.size; out = p.squares.0 }

pub fill_value_shares-requires : goal.fill_value_shares-requires
fill_value_shares-requires c =
    let a = c.args in
    let p = passed a.table.now a.a.now a.v.now a.m.now a.d.now a.f.now c.check_called.ensures c.in_ok-check_called.was in
    record { value_added = p.lent.value_added; production = p.lent.production.size; out = p.slices.0 }

pub fill_import_shares-requires : goal.fill_import_shares-requires
fill_import_shares-requires c =
    let a = c.args in
    let p = passed a.table.now a.a.now a.v.now a.m.now a.d.now a.f.now c.check_called.ensures c.in_ok-check_called.was in
    record { flows = p.lent.flows; final_demand = p.lent.final_demand; imports = p.lent.imports; out = p.slices.1.0 }

pub finish-requires : goal.finish-requires
finish-requires c =
    let a = c.args in
    let p = passed a.table.now a.a.now a.v.now a.m.now a.d.now a.f.now c.check_called.ensures c.in_ok-check_called.was in
    record {
      sectors = (p.lent.some, p.lent.flows.few);
      final_demand = p.lent.final_demand;
      exports = p.lent.exports;
      adjustment = p.lent.adjustment;
      sheets = (c.fill_inputs.auto.a ∙ p.squares.0, c.fill_import_shares.auto.m ∙ p.slices.1.0, p.squares.1.0, p.slices.1.1.0);
      inputs = p.inputs c.fill_inputs.new.a c.fill_inputs.ensures;
      import_shares = p.imports c.fill_import_shares.new.m c.fill_import_shares.ensures;
    }

pub returns : goal.returns
unfolding coefficients_report
returns c =
    let a = c.args in
    let t = a.table.now in
    let n = t.sectors in
    let p = passed t a.a.now a.v.now a.m.now a.d.now a.f.now c.check_called.ensures c.in_ok-check_called.was in
    let e = c.finish.ensures in
    let inputs = c.fill_inputs.ensures in
    let imports = c.fill_import_shares.ensures in
    let d = e.domestic ∙ domestic_from (table_lent t) p.lent.some inputs imports in
    record {
      answer =
          e.answer ∙ ap (λ (l : List ℕ). verdict (column_sums n (at n l) ∷ []) []) d
          ∙ answered_on (asked t a.a.now a.v.now a.m.now a.d.now a.f.now) c.check_called.ensures (last t) [] c.in_ok-check_called.was;
      sheets = λ _.
          (inputs, c.fill_value_shares.ensures, imports, d, e.demand ∙ ap (λ (m : List ℕ). domestic_demand n m t.final_demand.now t.exports.now t.adjustment.now) imports);
    }
