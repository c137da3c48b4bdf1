-- The decoder of gb18030, as in the Encoding Standard.
use Rattle.std.specs.Prelude.{ℕ, ◌+◌, ◌-◌, ◌*◌, List, [], ◌∷◌, Bool, nat_lt, nat_le, ◌==◌, ◌||◌, ◌&&◌, if◌then◌else◌, Option, Some, None}
use Rattle.gb18030.specs.Ranges.{range_character}
use Rattle.decoded_text.specs.Characters.{character_or_error}
use Rattle.decoded_text.specs.Indexes.{character_at}

-- the first byte of two or four, and the third of four
abbrev pub is_lead : ℕ → Bool
is_lead byte = nat_le 0x81 byte && nat_le byte 0xFE

-- the second and the fourth byte of four
abbrev pub is_digit : ℕ → Bool
is_digit byte = nat_le 0x30 byte && nat_le byte 0x39

-- the character of two bytes
abbrev pub of_two : List ℕ → ℕ → ℕ → Option ℕ
of_two index first second =
    if nat_lt second 0x40 || (second == 0x7F || second == 0xFF) then None
    else character_at index ((first - 0x81) * 190 + (second - (if nat_lt second 0x7F then 0x40 else 0x41)))

-- the character of four bytes
abbrev pub of_four : List ℕ → List ℕ → ℕ → ℕ → ℕ → ℕ → Option ℕ
of_four firsts codes first second third fourth =
    range_character firsts codes ((first - 0x81) * 12600 + (second - 0x30) * 1260 + (third - 0x81) * 10 + (fourth - 0x30))

-- a byte that begins nothing longer
abbrev pub alone : ℕ → Option ℕ
alone byte = if nat_lt byte 128 then Some byte else (if byte == 0x80 then Some 0x20AC else None)

-- The characters of the bytes; None for each error. Bytes that end within a character are one error.
-- An error at the third or the fourth byte takes the first byte alone.
unfoldable pub characters : List ℕ → List ℕ → List ℕ → List ℕ → List (Option ℕ)
characters index firsts codes [] = []
characters index firsts codes (first ∷ []) = (if is_lead first then None else alone first) ∷ []
characters index firsts codes (first ∷ second ∷ []) =
    if is_lead first then
    (if is_digit second then None ∷ []
    else character_or_error (of_two index first second) second (characters index firsts codes (second ∷ [])) [])
    else alone first ∷ characters index firsts codes (second ∷ [])
characters index firsts codes (first ∷ second ∷ third ∷ []) =
    if is_lead first then
    (if is_digit second then (if is_lead third then None ∷ [] else None ∷ characters index firsts codes (second ∷ third ∷ []))
    else character_or_error (of_two index first second) second (characters index firsts codes (second ∷ third ∷ []))
    (characters index firsts codes (third ∷ [])))
    else alone first ∷ characters index firsts codes (second ∷ third ∷ [])
characters index firsts codes (first ∷ second ∷ third ∷ fourth ∷ rest) =
    if is_lead first then
    (if is_digit second then
    (if is_lead third && is_digit fourth then of_four firsts codes first second third fourth ∷ characters index firsts codes rest
    else None ∷ characters index firsts codes (second ∷ third ∷ fourth ∷ rest))
    else character_or_error (of_two index first second) second (characters index firsts codes (second ∷ third ∷ fourth ∷ rest))
    (characters index firsts codes (third ∷ fourth ∷ rest)))
    else alone first ∷ characters index firsts codes (second ∷ third ∷ fourth ∷ rest)
