-- The tables of the decoder, for the crates above.
use Rattle.std.specs.Prelude.{ℕ, List}
use Rattle.gb18030.specs.declared.table.TheConstants.{CODES, FIRSTS, GB18030}

-- the character of each pointer of two bytes
abbrev pub index : List ℕ
index = GB18030

-- the first pointer of four bytes of each range, and its character
abbrev pub firsts : List ℕ
firsts = FIRSTS

abbrev pub codes : List ℕ
codes = CODES
