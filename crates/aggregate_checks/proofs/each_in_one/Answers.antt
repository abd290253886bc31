-- Every sector is asked. Assumes nothing.
use mathlib.Core.List.{List, map}
use mathlib.Core.Path.{◌≡◌, sym, ap, ◌∙◌}
use Prim.Native.Nat.{ℕ}
use native.Mathlib.Nat.{le_refl, zero-add}
use native.Mathlib.Omega.{arith}
use borrow.Author.Tests.{tests}
use lib.Dec.{eqb}
use Rattle.std.proofs.Common.{rules}
use Rattle.std.proofs.lemmas.Iterator.{YieldsList-from_range}
use Rattle.std.proofs.lemmas.Iterator.Search.{all_from_yields_List}
use Rattle.std.proofs.lemmas.List.Folds.{list_all-map}
use Rattle.std.proofs.lemmas.List.FromFn.{length-map-range_with_len, get_or-map-range_with_len}
use Rattle.std.specs.List.{range_with_len}
use Rattle.model.specs.Numbers.{all, tabulate}
use Rattle.model.specs.Aggregation.{group_count}
use Rattle.theory.proofs.Lists.{all_list, tabulated}
use Rattle.aggregate_checks.proofs.each_in_one.Goals as goal

made : (n : ℕ) (f : ℕ → ℕ) → map f (range_with_len 0 n) ≡ tabulate n f
made n f = tabulated n n f (map f (range_with_len 0 n)) (length-map-range_with_len f 0 n) (le_refl n) (λ k h. get_or-map-range_with_len f 0 n k k 0 h (zero-add k))

pub returns : goal.returns
returns c =
    let count = group_count c.args.groups.now in
    let n = c.args.n in
    all_from_yields_List (λ (i : ℕ). eqb 1 (count i)) _ _ c.all.result c.all.ensures.ran (YieldsList-from_range 0 n n (cc) (omega arith)) (λ x b q k. search (rules, tests))
    ∙ sym (list_all-map (eqb 1) count (range_with_len 0 n)) ∙ all_list (eqb 1) (map count (range_with_len 0 n))
    ∙ ap (λ (l : List ℕ). all (eqb 1) l) (made n count)
