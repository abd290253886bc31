-- Document 01's examples of amounts and lines. The checker computes them. Assumes nothing.
use mathlib.Core.Path.{◌≡◌, refl}
use mathlib.Core.List.{[], ◌∷◌, map}
use Rattle.model.specs.Text.{digits, decimal, line}

-- Theorem, for the reader: amounts as they are printed
amounts :
    map decimal (0 ∷ 7 ∷ 10 ∷ 1280 ∷ 18446744073709551615 ∷ [])
    ≡ (48 ∷ [])
    ∷ (55 ∷ [])
    ∷ (49 ∷ 48 ∷ [])
    ∷ (49 ∷ 50 ∷ 56 ∷ 48 ∷ [])
    ∷ (49 ∷ 56 ∷ 52 ∷ 52 ∷ 54 ∷ 55 ∷ 52 ∷ 52 ∷ 48 ∷ 55 ∷ 51 ∷ 55 ∷ 48 ∷ 57 ∷ 53 ∷ 53 ∷ 49 ∷ 54 ∷ 49 ∷ 53 ∷ [])
    ∷ []
unfolding digits
amounts = refl

-- Theorem, for the reader: a line of three fields, 2 1280 1999
fields :
    line (map decimal (2 ∷ 1280 ∷ 1999 ∷ []))
    ≡ 50 ∷ 32 ∷ 49 ∷ 50 ∷ 56 ∷ 48 ∷ 32 ∷ 49 ∷ 57 ∷ 57 ∷ 57 ∷ 10 ∷ []
unfolding digits
fields = refl
