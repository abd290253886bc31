-- No weighted sum of a row is larger than the whole production in millionths, so what a sector needs fits; at the end every cell is the definition's.
use Rattle.std.proofs.Common.{List, ℕ, ◌+◌, ◌*◌, ◌≤◌, ◌<◌, arith, le_trans}
use Rattle.std.proofs.Math.Nat.{mul-le-mul, mul-le-mul_left}
use Rattle.model.specs.Numbers.{one, sum, at, cell}
use Rattle.model.specs.Rounds.{weighted, intermediate, induced_imports}
use Rattle.model.specs.Checks.{production_limit, amount_limit}
use Rattle.theory.proofs.Sums.{cell_in}
use Rattle.theory.proofs.Lists.{front_done}
use Rattle.theory_rounds.proofs.Rounds.{weighted_shares, intermediate-within}
use Rattle.induced.proofs.fill_induced_imports.Goals as goal

module _ (n : ℕ) (a y : List ℕ) (inputs : (i : ℕ) → i < n * n → cell a i ≤ one) (total : sum n (cell y) ≤ production_limit) (i : ℕ) (h : i < n) where
  fits : weighted n (at n a) (cell y) i ≤ one * production_limit
  fits =
      le_trans (weighted_shares n (at n a) (cell y) i (λ j l. inputs (i * n + j) (cell_in n i j h l))) (mul-le-mul_left one total)

  taken : intermediate n (at n a) (cell y) i ≤ production_limit
  taken = omega (arith, intermediate-within n (at n a) (cell y) i, fits)

pub intermediate_use-need-requires-clause-fits : goal.intermediate_use-need-requires-clause-fits
intermediate_use-need-requires-clause-fits c = fits c.args.a.now.sectors c.args.a.now.cells.now c.args.y.now c.requires.inputs c.requires.total c.loop-i.i (omega arith)

pub overflow_add-need : goal.overflow_add-need
overflow_add-need c =
    let i = c.loop-i.i in
    omega (arith, c.intermediate_use-need.ensures, taken c.args.a.now.sectors c.args.a.now.cells.now c.args.y.now c.requires.inputs c.requires.total i (omega arith), c.requires.demand i (omega arith))

pub portion_of-requires : goal.portion_of-requires
portion_of-requires c =
    let i = c.loop-i.i in
    let need : c.intermediate_use-need.result + cell c.args.final_demand.now i ≤ production_limit + amount_limit =
    omega (arith, c.intermediate_use-need.ensures, taken c.args.a.now.sectors c.args.a.now.cells.now c.args.y.now c.requires.inputs c.requires.total i (omega arith), c.requires.demand i (omega arith)) in
    omega (arith, mul-le-mul (c.requires.imports i (omega arith)) need)

pub returns : goal.returns
unfolding induced_imports
returns c = front_done c.loop-i.invariant (omega arith)
