-- The first entry that is the sector stands where `first` finds it. Assumes nothing.
use mathlib.Core.Bool.{Bool, true, false, not, cond}
use mathlib.Core.List.{List, [], ◌∷◌}
use mathlib.Core.Path.{◌≡◌, refl, ap, ◌∙◌}
use Prim.Native.Nat.{ℕ, suc, ◌≤◌}
use native.Mathlib.Nat.{le_antisymm}
use native.Mathlib.Numerals.{one-add}
use borrow.Author.Tests.{ltb-false}
use lib.Dec.{ltb}
use lib.ListN.{length}
use Rattle.std.proofs.Common.{rules, tests, nat_eq, Some, None}
use Rattle.std.proofs.lemmas.Iterator.{YieldsList-from_slice}
use Rattle.std.proofs.lemmas.Iterator.Search.{position_from_yields_List}
use Rattle.std.proofs.lemmas.List.Sums.{prefix_len-le-length}
use Rattle.std.specs.List.{position, position_or_len}
use Rattle.std.specs.Option.{unwrap_or}
use Rattle.model.specs.Numbers.{cell, first}
use Rattle.permute_cells.proofs.place_of.Goals as goal

first_position : (p : ℕ → Bool) (xs : List ℕ) → position_or_len p xs ≡ first (length xs) (λ k. not (p (cell xs k)))
first_position p [] = refl
first_position p (x ∷ xs) = split (p x) refl (first_position p xs)
  where
    split : (t : Bool) → p x ≡ t → position_or_len p xs ≡ first (length xs) (λ k. not (p (cell xs k))) → position_or_len p (x ∷ xs) ≡ first (length (x ∷ xs)) (λ k. not (p (cell (x ∷ xs) k)))
    split true e more = rw (first, e) refl
    split false e more = rw (first, e) (one-add _ ∙ ap suc more)

kept : (i n : ℕ) → i ≤ n → unwrap_or (cond (ltb i n) (Some i) None) n ≡ i
kept i n h = split (ltb i n) refl
  where
    split : (t : Bool) → ltb i n ≡ t → unwrap_or (cond t (Some i) None) n ≡ i
    split true e = refl
    split false e = le_antisymm (ltb-false i n e) h

found : (p : ℕ → Bool) (xs : List ℕ) → unwrap_or (position p xs) (length xs) ≡ first (length xs) (λ k. not (p (cell xs k)))
found p xs = kept (position_or_len p xs) (length xs) (prefix_len-le-length (λ x. not (p x)) xs) ∙ first_position p xs

pub returns : goal.returns
returns c =
    let p = λ (e : ℕ). nat_eq e c.args.sector in
    let h : c.position.result ≡ position p c.args.order.now =
    position_from_yields_List p _ _ c.position.result c.position.ensures.ran (YieldsList-from_slice c.args.order.now (cc)) (λ x b q k. search (rules, tests)) in
    let w = found p c.args.order.now in
    cc
