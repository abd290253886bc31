-- Every group is asked. Assumes nothing.
use mathlib.Core.Path.{◌∙◌}
use Prim.Native.Nat.{ℕ}
use borrow.Author.Tests.{tests}
use lib.Dec.{leb}
use Rattle.std.proofs.Common.{rules, length}
use Rattle.std.proofs.lemmas.Iterator.{YieldsList-from_slice}
use Rattle.std.proofs.lemmas.Iterator.Search.{all_from_yields_List}
use Rattle.model.specs.Numbers.{cell}
use Rattle.model.specs.Checks.{amount_limit}
use Rattle.model.specs.Aggregation.{group_total}
use Rattle.theory.proofs.Lists.{all_list}
use Rattle.aggregate_totals.proofs.totals_within.Goals as goal

pub returns : goal.returns
returns c =
    let test = λ (group : ℕ). leb (group_total (length c.args.column.now) group (cell c.args.column.now)) amount_limit in
    all_from_yields_List test _ _ c.all.result c.all.ensures.ran (YieldsList-from_slice c.args.groups.now cc) (λ x b q k. search (rules, tests))
    ∙ all_list test c.args.groups.now
