-- Question 2 of the reader. Assumes nothing.
use mathlib.Core.Bool.{true, false, ◌&&◌}
use mathlib.Core.List.{List}
use mathlib.Core.Path.{◌≡◌, refl, sym}
use Prim.Native.Nat.{ℕ}
use borrow.Author.Tests.{eqb-true}
use lib.Dec.{eqb}
use Rattle.model.specs.Numbers.{all}
use Rattle.model.specs.Table.{sector_limit, sheet_limit}
use Rattle.model.specs.File.{Reading, reading, fits, called, word_limit}
use Rattle.theory.specs.Slices.{Each}
use Rattle.theory.proofs.Lists.{and_true, each_equal}

-- the slices have the lengths that are asked for
abbrev pub Fit : ℕ → List ℕ → Type 0
Fit x columns = (x ≡ sheet_limit) × Each sector_limit columns

module _ (x : ℕ) (columns : List ℕ) (k : ℕ) (s : List ℕ) where
  pub called_fit : fits x columns k ≡ true → reading s ≡ called x columns k s
  unfolding called
  called_fit e = rw e refl

  pub called_unfit : fits x columns k ≡ false → Reading.refused 2 0 ≡ called x columns k s
  unfolding called
  called_unfit e = rw e refl

pub fit : (x : ℕ) (columns : List ℕ) (k : ℕ) → fits x columns k ≡ true → Fit x columns × (k ≡ word_limit)
fit x columns k q =
    let a = and_true (eqb sheet_limit x && all (eqb sector_limit) columns) (eqb word_limit k) q in
    let b = and_true (eqb sheet_limit x) (all (eqb sector_limit) columns) a.0 in
    ((sym (eqb-true sheet_limit x b.0), each_equal sector_limit columns b.1), sym (eqb-true word_limit k a.1))
