-- `page_file::table_sheet` meets its contract, where the figures are refused and where they are printed.
use Rattle.std.proofs.Common.{List, ℕ, ◌≤◌, ◌≡◌, arith, drop, length, refl}
use Rattle.std.proofs.Math.ListN.{take}
use Rattle.std.proofs.lemmas.Result.{err_from_is_err_and}
use lib.Seq.{length-take-le}
use Rattle.model.specs.Table.{sector_limit}
use Rattle.model.specs.Lent.{table_lent}
use Rattle.page_file.proofs.FilePages.{table_stop, table_on}
use Rattle.page_file.proofs.table_sheet.Goals as goal

pub returns-in_err-rounds-clause-text : goal.returns-in_err-rounds-clause-text
returns-in_err-rounds-clause-text c =
    let p = err_from_is_err_and c.from_residual.result c.from_residual.ensures.1 in
    rw (p.1, p.2) (table_stop (table_lent c.args.table.now) c.in_err-rounds.ensures refl)

-- as much as a call that was lent the first n of 40 cells leaves
long : (n : ℕ) (l m : List ℕ) → n ≤ sector_limit → length l ≡ sector_limit → length m ≡ length (take n l) → n ≤ length m
long n l m few h e = omega (arith, length-take-le n l (omega arith))

pub returns-clause-text : goal.returns-clause-text
returns-clause-text c =
    let a = c.args in
    let n = a.table.now.sectors in
    let sizes = c.requires.sizes in
    let given = c.table_figures.auto in
    table_on (table_lent a.table.now) c.in_ok-rounds.ensures (drop n a.f.now) (drop n a.y.now) (drop n a.value.now) (drop n a.imports.now) refl
    (long n _ _ c.requires.few sizes.0 given.f) (long n _ _ c.requires.few sizes.1 given.y)
    (long n _ _ c.requires.few sizes.2 given.value) (long n _ _ c.requires.few sizes.3 given.imports)
