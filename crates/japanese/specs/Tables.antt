-- The tables of the decoders, for the crates above.
use Rattle.std.specs.Prelude.{ℕ, List}
use Rattle.japanese.specs.declared.table.TheConstants.{JIS0208, JIS0212}

-- the character of each pointer in JIS X 0208
abbrev pub jis0208 : List ℕ
jis0208 = JIS0208

-- the character of each pointer in JIS X 0212
abbrev pub jis0212 : List ℕ
jis0212 = JIS0212
