-- The parts of the reader's cells in the lent slices. Assumes nothing.
use mathlib.Core.Bool.{Bool, true, false}
use mathlib.Core.List.{List}
use mathlib.Core.Logic.{◌⊎◌, inl, inr}
use mathlib.Core.Path.{◌≡◌, refl, sym, ap, ◌∙◌}
use Prim.Native.Nat.{ℕ, ◌*◌, ◌<◌}
use native.Mathlib.Decide.{ℕ_discrete}
use native.Mathlib.Nat.{le-add_right}
use lib.ListN.{take, drop, replicate}
use Rattle.model.specs.Table.{sector_limit, sheet_limit}
use Rattle.model.specs.File.{Reading, fits, called, flows_read, column_read, kind_place, column_word, word_limit}
use Rattle.file_walk.specs.Steps.{Held}
use Rattle.file_cells.specs.Parts.{Put}
use Rattle.file_cells.proofs.Sizes.{Fit, fit, called_unfit}

-- either they have, or nothing is read
pub fit_or_not : (x : ℕ) (columns : List ℕ) (k : ℕ) (s : List ℕ) (o : Reading) → o ≡ called x columns k s → Fit x columns ⊎ (o ≡ Reading.refused 2 0)
fit_or_not x columns k s o z = go (fits x columns k) refl
  where
    go : (b : Bool) → fits x columns k ≡ b → Fit x columns ⊎ (o ≡ Reading.refused 2 0)
    go true q = inl (fit x columns k q).0
    go false q = inr (z ∙ sym (called_unfit x columns k s q))

pub either : {A B C : Type 0} → (A → B) → A ⊎ C → B ⊎ C
either f (inl a) = inl (f a)
either f (inr c) = inr c

-- a part as long as its slice, or nothing read: the slice holds what it should
module _ (o : Reading) (cells : List ℕ) (h : Held o cells) where
  put : (g : ℕ → Reading → List ℕ) → ((len q p : ℕ) → g len (Reading.refused q p) ≡ replicate len 0) → (from count : ℕ) → take count (drop from cells) ≡ g count o
      → (len : ℕ) (out : List ℕ) → (len ≡ count) ⊎ (o ≡ Reading.refused 2 0) → Put cells from count len out → out ≡ g len o
  put g z from count w len out d t = go (ℕ_discrete len count) d
    where
      go : Dec (len ≡ count) → (len ≡ count) ⊎ (o ≡ Reading.refused 2 0) → out ≡ g len o
      go (yes q) _ = t.copied q ∙ w ∙ ap (λ (k : ℕ). g k o) (sym q)
      go (no q) (inl e) = absurd (q e)
      go (no q) (inr e) = t.cleared q ∙ sym (ap (g len) e ∙ z len 2 0)

  pub put_flows : (len : ℕ) (out : List ℕ) → (len ≡ sheet_limit) ⊎ (o ≡ Reading.refused 2 0) → Put cells 0 sheet_limit len out → out ≡ flows_read len o
  put_flows = put flows_read (λ len q p. refl) 0 sheet_limit h.flows

  pub put_column : (c : ℕ) → column_word c < word_limit → (len : ℕ) (out : List ℕ) → (len ≡ sector_limit) ⊎ (o ≡ Reading.refused 2 0)
      → Put cells (column_word c * sector_limit) sector_limit len out → out ≡ column_read (column_word c) len o
  put_column c known = put (column_read (column_word c)) (λ len q p. refl) (column_word c * sector_limit) sector_limit (h.columns (column_word c) (le-add_right sector_limit (kind_place c)) known)
