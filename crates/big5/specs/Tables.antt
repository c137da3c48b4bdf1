-- The table of the decoder, for the crates above.
use Rattle.std.specs.Prelude.{ℕ, List}
use Rattle.big5.specs.declared.table.TheConstants.{BIG5}

-- the character of each pointer
abbrev pub index : List ℕ
index = BIG5
