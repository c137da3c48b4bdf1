-- The decoder of UTF-8, as in the Encoding Standard.
use Rattle.std.specs.Prelude.{ℕ, ◌+◌, ◌-◌, ◌*◌, ◌%◌, List, [], ◌∷◌, Bool, nat_lt, nat_le, ◌==◌, ◌&&◌, if◌then◌else◌, Option, Some, None}
use lib.Utf8.{scalar}
use Rattle.text_decoding.specs.declared.utf8.Utf8State.{Utf8State}

-- between two characters
abbrev pub fresh : Utf8State
fresh = record { needed = 0; code = 0; lower = 0x80; upper = 0xBF }

abbrev pub is_between : ℕ → ℕ → ℕ → Bool
is_between least greatest byte = nat_le least byte && nat_le byte greatest

-- behind the first byte of two, three or four: how many bytes are needed, the upper bits of the code,
-- and what the next byte may be
abbrev pub begun : ℕ → ℕ → ℕ → ℕ → Utf8State
begun needed code lower upper = record { needed = needed; code = code; lower = lower; upper = upper }

abbrev pub begun_by : ℕ → Option Utf8State
begun_by byte =
    if is_between 0xC2 0xDF byte then Some (begun 1 (byte - 0xC0) 0x80 0xBF)
    else (if is_between 0xE0 0xEF byte then Some (begun 2 (byte - 0xE0) (if byte == 0xE0 then 0xA0 else 0x80) (if byte == 0xED then 0x9F else 0xBF))
    else (if is_between 0xF0 0xF4 byte then Some (begun 3 (byte - 0xF0) (if byte == 0xF0 then 0x90 else 0x80) (if byte == 0xF4 then 0x8F else 0xBF))
    else None))

-- a byte that begins nothing longer: ASCII, or an error
abbrev pub alone : ℕ → Option ℕ
alone byte = if nat_lt byte 128 then Some byte else None

-- a byte between two characters, and what follows it in each state
abbrev pub or_alone : Option Utf8State → ℕ → (Utf8State → List (Option ℕ)) → List (Option ℕ)
or_alone (Some state) byte following = following state
or_alone None byte following = alone byte ∷ following fresh

abbrev pub at_first : ℕ → (Utf8State → List (Option ℕ)) → List (Option ℕ)
at_first byte following = or_alone (begun_by byte) byte following

-- the code with the bits of one byte more, before which it has at most 15, and the state behind it
abbrev pub code_with : Utf8State → ℕ → ℕ
code_with state byte = state.code % 0x8000 * 64 + (byte - 0x80)

abbrev pub behind_byte : Utf8State → ℕ → Utf8State
behind_byte state byte = begun (state.needed - 1) (code_with state byte) 0x80 0xBF

-- the character of a code
unfoldable pub character : ℕ → Option ℕ
character code = if scalar code then Some code else None

-- a byte within a character: where it may not be there, an error, and the byte is read as a first one
abbrev pub at_next : Utf8State → ℕ → (Utf8State → List (Option ℕ)) → List (Option ℕ)
at_next state byte following =
    if is_between state.lower state.upper byte then
    (if state.needed == 1 then character (code_with state byte) ∷ following fresh else following (behind_byte state byte))
    else None ∷ at_first byte following

-- the characters of the bytes from a state on; None for each error
unfoldable pub characters : Utf8State → List ℕ → List (Option ℕ)
characters state [] = if state.needed == 0 then [] else None ∷ []
characters state (byte ∷ rest) =
    if state.needed == 0 then at_first byte (λ after. characters after rest) else at_next state byte (λ after. characters after rest)
