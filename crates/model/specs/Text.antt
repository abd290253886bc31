-- Document 01, "The printed sheet": amounts and lines as bytes.
use Rattle.std.specs.Prelude.{true, false, List, [], ◌∷◌, ◌++◌, ℕ, zero, suc, ◌+◌, ◌/◌, ◌%◌, ltb}
use Rattle.model.specs.Bytes.{Bytes}

-- "Amounts are written in decimal, most significant digit first, without leading zeros": the digits of n, at most `most` of them
unfoldable pub digits : ℕ → ℕ → Bytes
digits zero n = []
digits (suc most) n = elim (ltb n 10) [ true ↦ (48 + n) ∷ [] | false ↦ digits most (n / 10) ++ ((48 + n % 10) ∷ []) ]

-- "zero is `0`": byte 48 is the digit 0. An amount n has at most n + 1 digits
abbrev pub decimal : ℕ → Bytes
decimal n = digits (suc n) n

-- "Fields are parted by one space" (byte 32), "lines end with byte 10": what follows a line's first field
abbrev pub rest : List Bytes → Bytes
rest [] = 10 ∷ []
rest (w ∷ ws) = 32 ∷ w ++ rest ws

abbrev pub line : List Bytes → Bytes
line [] = 10 ∷ []
line (w ∷ ws) = w ++ rest ws
