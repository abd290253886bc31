-- Document 01, "The printed sheet": the figures of the sheet, and the first refusal of the calls that work them out.
use Rattle.std.specs.Prelude.{cond, List, [], ◌∷◌, ℕ, ◌*◌, length}
use Rattle.model.specs.Numbers.{Cells, at}
use Rattle.model.specs.Table.{Table, final_demand}
use Rattle.model.specs.Rounds.{settled, induced_value_added, induced_imports}
use Rattle.model.specs.Checks.{Report, accepts, refuses, rounds_of, production_budget}
use Rattle.model.specs.Calls.{coefficients_report, input_coefficients, value_added_coefficients, import_coefficients, domestic_coefficients, table_demand, production_report, induced_report}

-- "works with budget 1,400", which settles every production
abbrev pub page_budget : ℕ
page_budget = production_budget

-- the first report of a list that refuses gives its number and its place; where none refuses it is accepted, with these counts
abbrev pub first_refusal : List Report → (counts : List ℕ) → Report
first_refusal [] ks = accepts ks
first_refusal (r ∷ rs) ks =
    let later = first_refusal rs ks in
    cond r.accepted later (refuses (length ks) r.number r.place)

-- of a table t and a demand f for domestic goods
module _ (t : Table) (f : Cells) where
  -- production of f, and what it induces with the table's F
  abbrev pub production_from : Cells
  production_from = settled t.sectors (at t.sectors (domestic_coefficients t)) f page_budget

  abbrev pub value_from : Cells
  value_from = induced_value_added t.sectors (value_added_coefficients t) production_from

  abbrev pub imports_from : Cells
  imports_from = induced_imports t.sectors (at t.sectors (input_coefficients t)) (import_coefficients t) (final_demand t) production_from

  -- sheets from the table, which were answered so, production, induced amounts: the first of the three that refuses, or the rounds
  abbrev pub report_from : (sheets : Report) → Report
  report_from sheets =
      let n = t.sectors in
      let settling = production_report n (domestic_coefficients t) f page_budget (n ∷ n ∷ []) in
      let inducing = induced_report n (input_coefficients t) (import_coefficients t) (value_added_coefficients t) (final_demand t) production_from (n ∷ n ∷ []) in
      first_refusal (sheets ∷ settling ∷ inducing ∷ []) (rounds_of settling ∷ [])

-- of a table's own demand for domestic goods
module _ (t : Table) where
  abbrev pub figures_production : Cells
  figures_production = production_from t (table_demand t)

  abbrev pub figures_value : Cells
  figures_value = value_from t (table_demand t)

  abbrev pub figures_imports : Cells
  figures_imports = imports_from t (table_demand t)

  unfoldable pub figures_report : Report
  figures_report =
      let n = t.sectors in
      report_from t (table_demand t) (coefficients_report t (n * n ∷ n * n ∷ []) (n ∷ n ∷ n ∷ []))
