-- The decoder of UTF-16, as in the Encoding Standard.
use Rattle.std.specs.Prelude.{ℕ, ◌+◌, ◌-◌, ◌*◌, List, [], ◌∷◌, Bool, nat_lt, nat_le, ◌&&◌, if◌then◌else◌, Option, Some, None}
use Rattle.encodings.specs.declared.utf16.ByteOrder.{ByteOrder}
use Rattle.encodings.specs.declared.utf16.ByteOrder.TheVariants.{BigEndian, LittleEndian}
use lib.Utf8.{scalar}

-- the code unit of two bytes
abbrev pub unit_of : ByteOrder → ℕ → ℕ → ℕ
unit_of BigEndian first second = first * 256 + second
unit_of LittleEndian first second = second * 256 + first

-- the first and the second unit of a pair
abbrev pub is_high : ℕ → Bool
is_high unit = nat_le 0xD800 unit && nat_lt unit 0xDC00

abbrev pub is_low : ℕ → Bool
is_low unit = nat_le 0xDC00 unit && nat_lt unit 0xE000

-- the character of a code; none for a surrogate
unfoldable pub character : ℕ → Option ℕ
character code = if scalar code then Some code else None

-- the code of a pair
abbrev pub pair_code : ℕ → ℕ → ℕ
pair_code high low = 0x10000 + (high - 0xD800) * 0x400 + (low - 0xDC00)

-- The characters of the bytes; None for each error. A surrogate with no partner is an error, and
-- bytes that end within a character or a pair are one.
unfoldable pub characters : ByteOrder → List ℕ → List (Option ℕ)
characters order [] = []
characters order (a ∷ []) = None ∷ []
characters order (a ∷ b ∷ []) = (if is_high (unit_of order a b) then None else character (unit_of order a b)) ∷ []
characters order (a ∷ b ∷ c ∷ []) =
    if is_high (unit_of order a b) then None ∷ []
    else character (unit_of order a b) ∷ characters order (c ∷ [])
characters order (a ∷ b ∷ c ∷ d ∷ rest) =
    if is_high (unit_of order a b) then
    (if is_low (unit_of order c d) then character (pair_code (unit_of order a b) (unit_of order c d)) ∷ characters order rest
    else None ∷ characters order (c ∷ d ∷ rest))
    else character (unit_of order a b) ∷ characters order (c ∷ d ∷ rest)
