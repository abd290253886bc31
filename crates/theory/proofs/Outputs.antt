-- What a call leaves in several slices that it is lent for outputs: each holds its result, or 0. Assumes nothing.
use mathlib.Core.Bool.{Bool, true, false, cond}
use mathlib.Core.List.{List, [], ◌∷◌, map}
use mathlib.Core.Path.{◌≡◌, refl, sym, ap₂, ◌∙◌}
use Prim.Native.Nat.{ℕ, zero, suc}
use lib.ListN.{length, get_or, replicate}
use Rattle.model.specs.Checks.{Report, output}
use Rattle.theory.proofs.Verdicts.{output_given}

-- a slice as it is lent, its result, and what is left in it
pub record Slot : Type 0 where
  pub lent : List ℕ
  pub made : List ℕ
  pub left : List ℕ

abbrev pub slot : (lent made left : List ℕ) → Slot
slot l m s = record { lent = l; made = m; left = s }

abbrev pub lents : List Slot → List (List ℕ)
lents = map (λ (s : Slot). s.lent)

abbrev pub mades : List Slot → List (List ℕ)
mades = map (λ (s : Slot). s.made)

abbrev pub lefts : List Slot → List (List ℕ)
lefts = map (λ (s : Slot). s.left)

module _ (r : Report) where
  -- nothing is left of no cell
  output_none : output r 0 [] ≡ []
  output_none = split r.accepted
    where
      split : (b : Bool) → cond {A = List ℕ} b [] (replicate 0 0) ≡ []
      split true = refl
      split false = refl

  -- every slice is left as its output
  abbrev pub AllLeft : List Slot → Type 0
  AllLeft [] = Unit {0}
  AllLeft (s ∷ ss) = (s.left ≡ output r (length s.lent) s.made) × AllLeft ss

  -- so is slice c, also past the last
  pub slot_left : (ss : List Slot) → AllLeft ss → (c : ℕ) → get_or (lefts ss) c [] ≡ output r (length (get_or (lents ss) c [])) (get_or (mades ss) c [])
  slot_left [] all c = sym output_none
  slot_left (s ∷ ss) (here, more) zero = here
  slot_left (s ∷ ss) (here, more) (suc c) = slot_left ss more c

  -- and where the call accepts, each holds its result
  pub slots_made : (ss : List Slot) → AllLeft ss → r.accepted ≡ true → lefts ss ≡ mades ss
  slots_made [] all ok = refl
  slots_made (s ∷ ss) (here, more) ok = ap₂ ◌∷◌ (here ∙ output_given r (length s.lent) s.made ok) (slots_made ss more ok)
