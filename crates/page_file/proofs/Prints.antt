-- A text that is written, by another name, and the first cells of slices. Assumes nothing.
use mathlib.Core.Path.{◌≡◌, refl, sym, ap, subst, ◌∙◌}
use mathlib.Core.List.{List}
use Prim.Native.Nat.{ℕ, ◌-◌, ◌≤◌}
use native.Mathlib.Omega.{arith}
use lib.ListN.{length, take}
use lib.Seq.{sets, length-take-le}
use Rattle.model.specs.Table.{sector_limit}
use Rattle.model.specs.Page.{sheet}

-- a text was written from the start of l, which then is m, and j is its length
abbrev pub Put : List ℕ → List ℕ → List ℕ → ℕ → Type 0
Put text l m j = (j ≡ length text) × (m ≡ sets l 0 text)

-- the same text by another name
pub told : {t u : List ℕ} (l : List ℕ) {m : List ℕ} {j : ℕ} → t ≡ u → Put t l m j → Put u l m j
told l e p = (p.0 ∙ ap length e, p.1 ∙ ap (λ (x : List ℕ). sets l 0 x) e)

pub room : {t u : List ℕ} {k : ℕ} → t ≡ u → length u ≤ k → length t ≤ k
room {k = k} e h = subst (λ (x : List ℕ). length x ≤ k) (sym e) h

-- the first n cells of an array
pub part : (n : ℕ) (l : List ℕ) → n ≤ length l → length (take (n - 0) l) ≡ n
part n l h =
    let e : n - 0 ≡ n = omega arith in
    ap (λ (k : ℕ). length (take k l)) e ∙ length-take-le n l h

-- and of 40 cells
pub first_part : (n : ℕ) (l : List ℕ) → n ≤ sector_limit → length l ≡ sector_limit → length (take (n - 0) l) ≡ n
first_part n l few long = part n l (omega arith)

pub sheet_part : (n : ℕ) (f y b i : List ℕ) (k : ℕ)
    → sheet n (take (n - 0) f) (take (n - 0) y) (take (n - 0) b) (take (n - 0) i) k ≡ sheet n (take n f) (take n y) (take n b) (take n i) k
sheet_part n f y b i k = let e : n - 0 ≡ n = omega arith in rw e refl
