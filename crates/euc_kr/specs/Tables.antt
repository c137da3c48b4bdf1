-- The table of the decoder, for the crates above.
use Rattle.std.specs.Prelude.{ℕ, List}
use Rattle.euc_kr.specs.declared.table.TheConstants.{EUC_KR}

-- the character of each pointer
abbrev pub index : List ℕ
index = EUC_KR
