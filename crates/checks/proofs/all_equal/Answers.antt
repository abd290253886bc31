use Rattle.std.proofs.Common.{rules, eqb}
use mathlib.Core.Path.{◌∙◌}
use borrow.Author.Tests.{tests}
use Rattle.std.proofs.lemmas.Iterator.{YieldsList-from_slice}
use Rattle.std.proofs.lemmas.Iterator.Search.{all_from_yields_List}
use Rattle.theory.proofs.Lists.{all_list}
use Rattle.checks.proofs.all_equal.Goals as goal

pub returns : goal.returns
returns c =
    all_from_yields_List (eqb c.args.n) _ _ c.all.result c.all.ensures.ran (YieldsList-from_slice c.args.given.now cc) (λ x b q k. search (rules, tests))
    ∙ all_list (eqb c.args.n) c.args.given.now
