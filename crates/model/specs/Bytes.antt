-- Bytes, and texts as the bytes that are written of them.
use Rattle.std.specs.Prelude.{List, [], ◌∷◌, ◌++◌, ℕ, ◌-◌, length, replicate}
use Prim.Native.Char.{code}
use Prim.Native.String.{String, [] as «end», ◌∷◌ as ◌then◌}

abbrev pub Bytes : Type 0
Bytes = List ℕ

-- the bytes of a text of one-byte characters
abbrev pub bytes : String → Bytes
bytes «end» = []
bytes (c then t) = code c ∷ bytes t

-- what a call leaves in a buffer of `limit` bytes: s, and 0 in every byte after it
abbrev pub padded : (limit : ℕ) → Bytes → Bytes
padded limit s = s ++ replicate (limit - length s) 0
