-- The decoder of EUC-JP, as in the Encoding Standard.
use Rattle.std.specs.Prelude.{ℕ, ◌+◌, ◌-◌, ◌*◌, List, [], ◌∷◌, Bool, nat_lt, nat_le, ◌==◌, ◌||◌, ◌&&◌, if◌then◌else◌, Option, Some, None}
use Rattle.decoded_text.specs.Characters.{character_or_error}
use Rattle.decoded_text.specs.Indexes.{character_at}
use Rattle.japanese.specs.Shared.{katakana}

-- a row or a cell of an index
abbrev pub is_high : ℕ → Bool
is_high byte = nat_le 0xA1 byte && nat_le byte 0xFE

-- the first byte of two or three
abbrev pub is_lead : ℕ → Bool
is_lead byte = byte == 0x8E || byte == 0x8F || is_high byte

-- two bytes that a third one follows
abbrev pub is_three : ℕ → ℕ → Bool
is_three lead trail = lead == 0x8F && is_high trail

-- the character of a row and a cell
abbrev pub of_cell : List ℕ → ℕ → ℕ → Option ℕ
of_cell index row cell = if is_high row && is_high cell then character_at index ((row - 0xA1) * 94 + (cell - 0xA1)) else None

-- the character of two bytes: a halfwidth katakana behind 0x8E
abbrev pub of_two : List ℕ → ℕ → ℕ → Option ℕ
of_two index lead trail =
    if lead == 0x8E && (nat_le 0xA1 trail && nat_le trail 0xDF) then Some (katakana (trail - 0xA1))
    else of_cell index lead trail

-- a byte alone
abbrev pub alone : ℕ → Option ℕ
alone byte = if nat_lt byte 128 then Some byte else None

-- The characters of the bytes; None for each error. The first index is JIS X 0208, and the second,
-- for the characters of three bytes, JIS X 0212.
unfoldable pub characters : List ℕ → List ℕ → List ℕ → List (Option ℕ)
characters jis0208 jis0212 [] = []
characters jis0208 jis0212 (lead ∷ []) = (if is_lead lead then None else alone lead) ∷ []
characters jis0208 jis0212 (lead ∷ trail ∷ []) =
    if is_lead lead then
    (if is_three lead trail then None ∷ []
    else character_or_error (of_two jis0208 lead trail) trail (characters jis0208 jis0212 (trail ∷ [])) [])
    else alone lead ∷ characters jis0208 jis0212 (trail ∷ [])
characters jis0208 jis0212 (lead ∷ trail ∷ third ∷ rest) =
    if is_lead lead then
    (if is_three lead trail then
    character_or_error (of_cell jis0212 trail third) third (characters jis0208 jis0212 (third ∷ rest)) (characters jis0208 jis0212 rest)
    else character_or_error (of_two jis0208 lead trail) trail (characters jis0208 jis0212 (trail ∷ third ∷ rest))
    (characters jis0208 jis0212 (third ∷ rest)))
    else alone lead ∷ characters jis0208 jis0212 (trail ∷ third ∷ rest)
