-- The decoder of EUC-KR, as in the Encoding Standard.
use Rattle.std.specs.Prelude.{ℕ, ◌+◌, ◌-◌, ◌*◌, List, [], ◌∷◌, Bool, nat_lt, nat_le, ◌||◌, ◌&&◌, if◌then◌else◌, Option, Some, None}
use Rattle.decoded_text.specs.Characters.{character_or_error}
use Rattle.decoded_text.specs.Indexes.{character_at}

-- the first byte of two
abbrev pub is_lead : ℕ → Bool
is_lead byte = nat_le 0x81 byte && nat_le byte 0xFE

-- the character of two bytes
abbrev pub of_two : List ℕ → ℕ → ℕ → Option ℕ
of_two index lead trail =
    if nat_lt trail 0x41 || nat_lt 0xFE trail then None else character_at index ((lead - 0x81) * 190 + (trail - 0x41))

-- a byte alone
abbrev pub alone : ℕ → Option ℕ
alone byte = if nat_lt byte 128 then Some byte else None

-- the characters of the bytes; None for each error
unfoldable pub characters : List ℕ → List ℕ → List (Option ℕ)
characters index [] = []
characters index (lead ∷ []) = (if is_lead lead then None else alone lead) ∷ []
characters index (lead ∷ trail ∷ rest) =
    if is_lead lead then character_or_error (of_two index lead trail) trail (characters index (trail ∷ rest)) (characters index rest)
    else alone lead ∷ characters index (trail ∷ rest)
