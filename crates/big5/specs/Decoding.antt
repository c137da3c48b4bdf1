-- The decoder of Big5, as in the Encoding Standard.
use Rattle.std.specs.Prelude.{ℕ, ◌+◌, ◌-◌, ◌*◌, List, [], ◌∷◌, ◌++◌, Bool, nat_lt, nat_le, ◌==◌, ◌||◌, ◌&&◌, if◌then◌else◌, Option, Some}
use Rattle.std.specs.Prelude.{None}
use Rattle.decoded_text.specs.Indexes.{character_at}
use Rattle.big5.specs.declared.decoding.Marked.{Marked}

-- the first byte of two
abbrev pub is_lead : ℕ → Bool
is_lead byte = nat_le 0x81 byte && nat_le byte 0xFE

-- the second byte of two
abbrev pub is_trail : ℕ → Bool
is_trail byte = nat_le 0x40 byte && nat_le byte 0x7E || nat_le 0xA1 byte && nat_le byte 0xFE

abbrev pub pointer_of : ℕ → ℕ → ℕ
pointer_of lead trail = (lead - 0x81) * 157 + (trail - (if nat_lt trail 0x7F then 0x40 else 0x62))

-- the character of two bytes
abbrev pub of_two : List ℕ → ℕ → ℕ → Option ℕ
of_two index lead trail = if is_trail trail then character_at index (pointer_of lead trail) else None

-- the mark that stands after the letter at four pointers: a macron or a caron
abbrev pub mark_at : ℕ → Option ℕ
mark_at pointer =
    if pointer == 1133 || pointer == 1164 then Some 0x0304
    else (if pointer == 1135 || pointer == 1166 then Some 0x030C else None)

abbrev pub mark_of : ℕ → ℕ → Option ℕ
mark_of lead trail = if is_trail trail then mark_at (pointer_of lead trail) else None

-- a character and its mark, if it has one
abbrev pub marked : Option ℕ → Option ℕ → List (Option ℕ)
marked character None = character ∷ []
marked character (Some mark) = character ∷ Some mark ∷ []

-- a character without a mark
abbrev pub unmarked : Option ℕ → Marked
unmarked character = record { character = character; mark = None }

-- two bytes give their character. Where they have none, an error takes both bytes, but leaves a
-- trail byte that is ASCII
abbrev pub after_two : Option ℕ → Option ℕ → ℕ → List (Option ℕ) → List (Option ℕ) → List (Option ℕ)
after_two (Some character) mark trail from_trail behind = marked (Some character) mark ++ behind
after_two None mark trail from_trail behind = if nat_lt trail 128 then None ∷ from_trail else None ∷ behind

-- a byte alone
abbrev pub alone : ℕ → Option ℕ
alone byte = if nat_lt byte 128 then Some byte else None

-- the characters of the bytes; None for each error
unfoldable pub characters : List ℕ → List ℕ → List (Option ℕ)
characters index [] = []
characters index (lead ∷ []) = (if is_lead lead then None else alone lead) ∷ []
characters index (lead ∷ trail ∷ rest) =
    if is_lead lead
    then after_two (of_two index lead trail) (mark_of lead trail) trail (characters index (trail ∷ rest)) (characters index rest)
    else alone lead ∷ characters index (trail ∷ rest)
