-- What the walk keeps from record to record tells what a reading may be: one induction for all that is said of readings. Assumes nothing.
use mathlib.Core.Bool.{true, false, ◌&&◌}
use mathlib.Core.List.{List, [], ◌∷◌}
use mathlib.Core.Path.{◌≡◌, subst}
use Prim.Native.Nat.{ℕ, zero, suc, ◌+◌, ◌≤◌}
use native.Mathlib.Nat.{le_refl}
use native.Mathlib.Omega.{arith}
use borrow.Author.Tests.{leb-false, eqb-true}
use lib.Dec.{eqb, leb, lit≤}
use lib.ListN.{length}
use Rattle.model.specs.Numbers.{cell}
use Rattle.model.specs.Table.{sector_limit, few_sectors}
use Rattle.model.specs.File.{Entry, kind_at, next_at, whole_at, inside_at, entry_at, named_before, Reading, walk, walk_with, reading, reading_with}
use Rattle.theory.proofs.Lists.{and_true, from_one}
use Rattle.theory_files.proofs.RecordKinds.{Taken, taken}
use Rattle.theory_files.proofs.Questions.{unless, provided, either}

-- a first record that is taken
pub record First (s : List ℕ) (n : ℕ) : Type 0 where
  pub whole : whole_at s 0 ≡ true
  pub kind : kind_at s 0 ≡ 1
  pub some : 1 ≤ n
  pub few : n ≤ sector_limit

-- a record at an offset that ends the file
pub record Last (s : List ℕ) (at : ℕ) : Type 0 where
  pub kind : kind_at s at ≡ 8
  pub end : at + 1 ≡ length s

-- a record at an offset that names a cell, with the cells named before it
pub record Next (s : List ℕ) (n : ℕ) (es : List Entry) (at : ℕ) : Type 0 where
  pub whole : whole_at s at ≡ true
  pub not_first : eqb (kind_at s at) 1 ≡ false
  pub not_end : eqb (kind_at s at) 8 ≡ false
  pub taken : Taken n s at
  pub new : named_before es (entry_at s at) ≡ false

-- a property that refusals of questions 11 to 15 have, at an offset of the file or at its end
module _ (s : List ℕ) (P : Reading → Type 0)
    (stops : (number place : ℕ) → 11 ≤ number → number ≤ 15 → place ≤ length s → P (Reading.refused number place))
  where
    abbrev len : ℕ
    len = length s

    abbrev n : ℕ
    n = cell s 1

    -- and that an accepted end has, by what is kept from record to record
    module _ (I : List Entry → ℕ → Type 0) (lasts : (es : List Entry) (at : ℕ) → I es at → Last s at → P (Reading.table n es))
        (goes_on : (es : List Entry) (at : ℕ) → I es at → Next s n es at → I (entry_at s at ∷ es) (next_at s at))
      where
        walk_holds : n ≤ sector_limit → (fuel : ℕ) (es : List Entry) (at : ℕ) → I es at → P (walk fuel s n es at)
        unfolding walk_with
        walk_holds few zero es at i = stops 15 len (lit≤ tt) (lit≤ tt) (le_refl len)
        walk_holds few (suc fuel) es at i =
            unless P (leb len at) _ 15 len (stops 15 len (lit≤ tt) (lit≤ tt) (le_refl len)) (λ on.
            let low = leb-false len at on in
            provided P (whole_at s at) _ 11 at (stops 11 at (lit≤ tt) (lit≤ tt) (omega arith)) (λ whole.
            unless P (eqb (kind_at s at) 1) _ 12 at (stops 12 at (lit≤ tt) (lit≤ tt) (omega arith)) (λ later.
            either P (eqb (kind_at s at) 8) _ _
            (λ ends.
            provided P (eqb (at + 1) len) (Reading.table n es) 15 (at + 1) (stops 15 (at + 1) (lit≤ tt) (lit≤ tt) (omega arith)) (λ last.
            lasts es at i (record { kind = eqb-true (kind_at s at) 8 ends; end = eqb-true (at + 1) len last })))
            (λ names.
            provided P (inside_at s at n) _ 13 at (stops 13 at (lit≤ tt) (lit≤ tt) (omega arith)) (λ inside.
            unless P (named_before es (entry_at s at)) _ 14 at (stops 14 at (lit≤ tt) (lit≤ tt) (omega arith)) (λ new.
            walk_holds few fuel (entry_at s at ∷ es) (next_at s at)
            (goes_on es at i
            (record { whole = whole; not_first = later; not_end = names; taken = taken s at whole later names n few inside; new = new }))))))))

        -- is a property of the reading, if the first record begins it
        pub reading_holds : (First s n → I [] 2) → P (reading s)
        unfolding reading_with
        reading_holds starts =
            unless P (eqb len 0) _ 15 0 (stops 15 0 (lit≤ tt) (lit≤ tt) (omega arith)) (λ _.
            provided P (whole_at s 0) _ 11 0 (stops 11 0 (lit≤ tt) (lit≤ tt) (omega arith)) (λ whole.
            provided P (eqb (kind_at s 0) 1 && few_sectors n) _ 12 0 (stops 12 0 (lit≤ tt) (lit≤ tt) (omega arith)) (λ sized.
            let parts = and_true (eqb (kind_at s 0) 1) (few_sectors n) sized in
            let size = from_one n sector_limit parts.1 in
            walk_holds size.1 len [] 2
            (starts (record { whole = whole; kind = eqb-true (kind_at s 0) 1 parts.0; some = size.0; few = size.1 })))))

-- The same of an accepted reading alone
abbrev OfTable : (ℕ → List Entry → Type 0) → Reading → Type 0
OfTable Q (Reading.refused number place) = Unit {0}
OfTable Q (Reading.table n es) = Q n es

pub accepted_holds :
    (s : List ℕ) (Q : ℕ → List Entry → Type 0) (I : List Entry → ℕ → Type 0)
    → ((es : List Entry) (at : ℕ) → I es at → Last s at → Q (cell s 1) es)
    → ((es : List Entry) (at : ℕ) → I es at → Next s (cell s 1) es at → I (entry_at s at ∷ es) (next_at s at))
    → (First s (cell s 1) → I [] 2) → (n : ℕ) (es : List Entry) → reading s ≡ Reading.table n es → Q n es
accepted_holds s Q I lasts goes_on starts n es e = subst (OfTable Q) e (reading_holds s (OfTable Q) (λ _ _ _ _ _. tt) I lasts goes_on starts)
