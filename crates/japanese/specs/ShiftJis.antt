-- The decoder of Shift_JIS, as in the Encoding Standard.
use Rattle.std.specs.Prelude.{ℕ, ◌+◌, ◌-◌, ◌*◌, List, [], ◌∷◌, Bool, nat_lt, nat_le, ◌||◌, ◌&&◌, if◌then◌else◌, Option, Some, None}
use Rattle.decoded_text.specs.Characters.{character_or_error}
use Rattle.decoded_text.specs.Indexes.{character_at}
use Rattle.japanese.specs.Shared.{katakana}

-- the first byte of two
abbrev pub is_lead : ℕ → Bool
is_lead byte = nat_le 0x81 byte && nat_le byte 0x9F || nat_le 0xE0 byte && nat_le byte 0xFC

-- the second byte of two
abbrev pub is_trail : ℕ → Bool
is_trail byte = nat_le 0x40 byte && nat_le byte 0x7E || nat_le 0x80 byte && nat_le byte 0xFC

abbrev pub pointer_of : ℕ → ℕ → ℕ
pointer_of lead trail =
    (lead - (if nat_lt lead 0xA0 then 0x81 else 0xC1)) * 188 + (trail - (if nat_lt trail 0x7F then 0x40 else 0x41))

-- the character of a pointer: those from 8836 to 10715 are for private use
abbrev pub of_pointer : List ℕ → ℕ → Option ℕ
of_pointer index pointer =
    if nat_le 8836 pointer && nat_le pointer 10715 then Some (0xE000 + (pointer - 8836)) else character_at index pointer

-- the character of two bytes
abbrev pub of_two : List ℕ → ℕ → ℕ → Option ℕ
of_two index lead trail = if is_trail trail then of_pointer index (pointer_of lead trail) else None

-- a byte alone: ASCII, 128, or a halfwidth katakana
abbrev pub alone : ℕ → Option ℕ
alone byte =
    if nat_le byte 128 then Some byte
    else (if nat_le 0xA1 byte && nat_le byte 0xDF then Some (katakana (byte - 0xA1)) else None)

-- the characters of the bytes; None for each error
unfoldable pub characters : List ℕ → List ℕ → List (Option ℕ)
characters index [] = []
characters index (lead ∷ []) = (if is_lead lead then None else alone lead) ∷ []
characters index (lead ∷ trail ∷ rest) =
    if is_lead lead then character_or_error (of_two index lead trail) trail (characters index (trail ∷ rest)) (characters index rest)
    else alone lead ∷ characters index (trail ∷ rest)
