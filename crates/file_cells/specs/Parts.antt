-- What a part of the reader's cells leaves in a lent slice.
use Rattle.std.specs.Prelude.{List, ◌≡◌, ℕ, take, drop, replicate}

-- what a slice of a length holds after a part of the cells was put into it
pub record Put (cells : List ℕ) (from count len : ℕ) (out : List ℕ) : Type 0 where
  pub copied : len ≡ count → out ≡ take count (drop from cells)
  pub cleared : (len ≡ count → ⊥) → out ≡ replicate len 0
