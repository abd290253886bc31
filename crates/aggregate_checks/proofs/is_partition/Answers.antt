-- Every word is asked. Assumes nothing.
use mathlib.Core.Bool.{Bool, ◌&&◌}
use mathlib.Core.Path.{◌≡◌, sym, ap, ◌∙◌}
use borrow.Author.Tests.{tests}
use Rattle.std.proofs.Common.{rules}
use Rattle.std.proofs.lemmas.Iterator.{YieldsList-from_slice}
use Rattle.std.proofs.lemmas.Iterator.Search.{all_from_yields_List}
use Rattle.model.specs.Numbers.{all}
use Rattle.model.specs.Aggregation.{group_fits}
use Rattle.theory.proofs.Lists.{all_list}
use Rattle.aggregate_checks.proofs.is_partition.Goals as goal

pub returns-then-each_in_one : goal.returns-then-each_in_one
returns-then-each_in_one c =
    let test = group_fits c.args.n in
    let words : c.all.result ≡ all test c.args.groups.now =
    all_from_yields_List test _ _ c.all.result c.all.ensures.ran (YieldsList-from_slice c.args.groups.now cc) (λ x b q k. search (rules, tests))
    ∙ all_list test c.args.groups.now in
    words ∙ ap (λ (b : Bool). b && all test c.args.groups.now) (sym (sym c.each_in_one.ensures ∙ c.if-each_in_one.true))
