-- The decoder of ISO-2022-JP, as in the Encoding Standard.
use Rattle.std.specs.Prelude.{ℕ, ◌+◌, ◌-◌, ◌*◌, List, [], ◌∷◌, Bool, true, false, nat_lt, nat_le, ◌==◌, ◌||◌, ◌&&◌, if◌then◌else◌, Option, Some, None}
use Rattle.japanese.specs.declared.iso_2022_jp.Mode.{Mode}
use Rattle.japanese.specs.declared.iso_2022_jp.Mode.TheVariants.{Ascii, Roman, Katakana, Jis0208}
use Rattle.japanese.specs.declared.iso_2022_jp.State.{State}
use Rattle.decoded_text.specs.Indexes.{character_at}
use Rattle.japanese.specs.Shared.{katakana}

-- the state at the beginning of a text
abbrev pub start : State
start = record { mode = Ascii; is_escaped = false }

-- the state behind anything but an escape
abbrev pub plain : State → State
plain state = record state { is_escaped = false }

-- the state behind an escape
abbrev pub escaped : Mode → State
escaped mode = record { mode = mode; is_escaped = true }

-- the first byte of two
abbrev pub is_lead : Mode → ℕ → Bool
is_lead Jis0208 byte = nat_le 0x21 byte && nat_le byte 0x7E
is_lead Ascii byte = false
is_lead Roman byte = false
is_lead Katakana byte = false

-- the character of two bytes
abbrev pub of_two : List ℕ → ℕ → ℕ → Option ℕ
of_two index first second =
    if nat_lt second 0x21 || nat_lt 0x7E second then None else character_at index ((first - 0x21) * 94 + (second - 0x21))

-- the character of a byte alone, in each mode
abbrev pub of_byte : Mode → ℕ → Option ℕ
of_byte Ascii byte = Some byte
of_byte Roman byte = if byte == 0x5C then Some 0xA5 else (if byte == 0x7E then Some 0x203E else Some byte)
of_byte Katakana byte = if nat_le 0x21 byte && nat_le byte 0x5F then Some (katakana (byte - 0x21)) else None
of_byte Jis0208 byte = None

abbrev pub in_mode : Mode → ℕ → Option ℕ
in_mode mode byte = if nat_le 128 byte || (byte == 0x0E || byte == 0x0F) then None else of_byte mode byte

-- the mode that an escape begins, by the two bytes behind its first one
abbrev pub target : ℕ → ℕ → Option Mode
target a b =
    if a == 0x28 then (if b == 0x42 then Some Ascii else (if b == 0x4A then Some Roman else (if b == 0x49 then Some Katakana else None)))
    else (if a == 0x24 then (if b == 0x40 || b == 0x42 then Some Jis0208 else None) else None)

-- an escape gives nothing, but an error directly behind another escape. Where the bytes begin no mode,
-- an error takes the first one
abbrev pub after_escape : Option Mode → Bool → (Mode → List (Option ℕ)) → List (Option ℕ) → List (Option ℕ)
after_escape None is_escaped following otherwise = None ∷ otherwise
after_escape (Some mode) is_escaped following otherwise = if is_escaped then None ∷ following mode else following mode

-- the characters of the bytes, from a state on; None for each error
unfoldable pub characters : List ℕ → State → List ℕ → List (Option ℕ)
characters index state [] = []
characters index state (first ∷ []) =
    (if first == 0x1B then None else (if is_lead state.mode first then None else in_mode state.mode first)) ∷ []
characters index state (first ∷ second ∷ []) =
    if first == 0x1B then None ∷ characters index (plain state) (second ∷ [])
    else (if is_lead state.mode first then
    (if second == 0x1B then None ∷ characters index (plain state) (second ∷ []) else of_two index first second ∷ [])
    else in_mode state.mode first ∷ characters index (plain state) (second ∷ []))
characters index state (first ∷ second ∷ third ∷ rest) =
    if first == 0x1B then
    after_escape (target second third) state.is_escaped (λ mode. characters index (escaped mode) rest)
    (characters index (plain state) (second ∷ third ∷ rest))
    else (if is_lead state.mode first then
    (if second == 0x1B then None ∷ characters index (plain state) (second ∷ third ∷ rest)
    else of_two index first second ∷ characters index (plain state) (third ∷ rest))
    else in_mode state.mode first ∷ characters index (plain state) (second ∷ third ∷ rest))
