-- What a reading may be: a refusal with a number from 1 to 15 and a place up to 12,889, or 1 to 40 sectors and cells that such a table has, each named once. Assumes nothing.
use mathlib.Core.Bool.{Bool, true, false}
use mathlib.Core.List.{List, [], ◌∷◌}
use mathlib.Core.Path.{◌≡◌, refl, subst}
use Prim.Native.Nat.{ℕ, ◌≤◌}
use native.Mathlib.Nat.{le_refl}
use native.Mathlib.Omega.{arith}
use borrow.Author.Tests.{ltb-true, ltb-false}
use lib.Dec.{ltb}
use lib.ListN.{length, take}
use lib.Seq.{length-take-le}
use Rattle.model.specs.Numbers.{cell}
use Rattle.model.specs.Table.{sector_limit}
use Rattle.model.specs.File.{Entry, Within, named_before, Reading, reading}
use Rattle.theory_files.specs.Files.{input_limit}
use Rattle.theory_files.proofs.Walks.{reading_holds}
use Rattle.theory_files.proofs.Prefixes.{prefix_answers}

-- each of the named cells is one that a table of n sectors has
abbrev pub AllWithin : ℕ → List Entry → Type 0
AllWithin n [] = Unit {0}
AllWithin n (e ∷ es) = Within n e × AllWithin n es

-- and no two of them are the same cell
abbrev pub Distinct : List Entry → Type 0
Distinct [] = Unit {0}
Distinct (e ∷ es) = (named_before es e ≡ false) × Distinct es

-- a refusal with a place up to `most`, or 1 to 40 sectors and such cells
abbrev pub Answered : ℕ → Reading → Type 0
Answered most (Reading.refused number place) = (1 ≤ number) × (number ≤ 15) × (place ≤ most)
Answered most (Reading.table n es) = (1 ≤ n) × (n ≤ sector_limit) × AllWithin n es × Distinct es

whole_answered : (s : List ℕ) → Answered (length s) (reading s)
whole_answered s =
    let n = cell s 1 in
    reading_holds s (Answered (length s)) (λ number place low high near. (omega arith, high, near))
    (λ es _. (1 ≤ n) × (n ≤ sector_limit) × AllWithin n es × Distinct es) (λ es at i _. i)
    (λ es at i next. (i.0, i.1, (next.taken.within, i.2), (next.new, i.3))) (λ first. (first.some, first.few, tt, tt))

answered_more : (a b : ℕ) (r : Reading) → a ≤ b → Answered a r → Answered b r
answered_more a b (Reading.refused number place) h p = (p.0, p.1, omega (arith, p.2))
answered_more a b (Reading.table n es) h p = p

-- a longer file is answered as its first 12,889 bytes are
pub reading_answered : (s : List ℕ) → Answered input_limit (reading s)
reading_answered s = split (ltb (length s) input_limit) refl
  where
    split : (b : Bool) → ltb (length s) input_limit ≡ b → Answered input_limit (reading s)
    split true e = answered_more (length s) input_limit (reading s) (omega (arith, ltb-true (length s) input_limit e)) (whole_answered s)
    split false e =
        let long = ltb-false (length s) input_limit e in
        let start = take input_limit s in
        subst (Answered input_limit) (prefix_answers input_limit s (le_refl input_limit) long)
        (answered_more (length start) input_limit (reading start) (omega (arith, length-take-le input_limit s long)) (whole_answered start))
