-- Lists of lengths, and slices that have them.
use Rattle.std.specs.Prelude.{List, [], ◌∷◌, ◌≡◌, ℕ, ◌<◌, length, get_or}

-- every length of a list is n, one by one
abbrev pub Each : ℕ → List ℕ → Type 0
Each n [] = Unit {0}
Each n (x ∷ xs) = (x ≡ n) × Each n xs

-- every slice of a list has n cells
abbrev pub Columns : ℕ → List (List ℕ) → Type 0
Columns n ss = (c : ℕ) → c < length ss → length (get_or ss c []) ≡ n
