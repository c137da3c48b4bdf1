-- The bytes that end a run.
use Rattle.std.specs.Prelude.{◌==◌, ◌||◌, ℕ, Bool, List, slice_index_or}

-- the byte is one of the four
abbrev pub is_one_of : List ℕ → ℕ → Bool
is_one_of ends b =
    b == slice_index_or ends 0 0 || b == slice_index_or ends 1 0 || b == slice_index_or ends 2 0 || b == slice_index_or ends 3 0
