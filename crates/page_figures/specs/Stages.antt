-- What the figures of a printed sheet are: a report, and where it accepts what the slices hold.
use Rattle.std.specs.Prelude.{true, ◌≡◌}
use Rattle.model.specs.Numbers.{Cells}
use Rattle.model.specs.Table.{Table}
use Rattle.model.specs.Checks.{Report}
use Rattle.model.specs.Calls.{table_demand}
use Rattle.model.specs.Figures.{figures_production, figures_value, figures_imports, figures_report}

-- demand, production, value added and imports, as the sheet prints them
pub record Figures (t : Table) (r : Report) (f y b i : Cells) : Type 0 where
  pub told : r ≡ figures_report t
  pub demand : r.accepted ≡ true → f ≡ table_demand t
  pub production : r.accepted ≡ true → y ≡ figures_production t
  pub value : r.accepted ≡ true → b ≡ figures_value t
  pub imports : r.accepted ≡ true → i ≡ figures_imports t
