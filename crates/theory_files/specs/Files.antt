-- How many bytes of an input matter.
use Rattle.std.specs.Prelude.{ℕ, ◌+◌}
use Rattle.model.specs.File.{file_limit}

-- an input is answered as its first 12,889 bytes are: the walk never looks further
abbrev pub input_limit : ℕ
input_limit = file_limit + 6
