-- `page_file::table_in` meets its contract: each slice of the table is a part of the cells.
use Rattle.std.proofs.Common.{List, ◌≡◌, ℕ, ◌+◌, ◌-◌, arith, ap, drop, refl}
use Rattle.std.proofs.Math.ListN.{take}
use Rattle.page_file.proofs.table_in.Goals as goal

cut : (k n : ℕ) (cells : List ℕ) → take (k + n - k) (drop k cells) ≡ take n (drop k cells)
cut k n cells = let e : k + n - k ≡ n = omega arith in ap (λ (j : ℕ). take j (drop k cells)) e

pub returns : goal.returns
returns c =
    let n = c.args.n in
    let cells = c.args.cells.now in
    rw (cut 1600 n cells, cut 1640 n cells, cut 1680 n cells, cut 1720 n cells, cut 1760 n cells, cut 1840 n cells) refl
