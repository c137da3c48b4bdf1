-- The indexes of the Encoding Standard, which list the character of each pointer.
use Rattle.std.specs.Prelude.{ℕ, List, ◌==◌, slice_index, if◌then◌else◌, Option, Some, None}
use lib.Utf8.{scalar}

-- the character with this code, where 0 stands for none
unfoldable pub character_of : ℕ → Option ℕ
character_of code = if code == 0 then None else (if scalar code then Some code else None)

-- the character of a pointer in an index
unfoldable pub character_at : List ℕ → ℕ → Option ℕ
character_at index pointer = character_of (slice_index index pointer)
