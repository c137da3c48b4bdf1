-- Places in bytes: what the steps of the HTML Standard say by "advance position".
use Rattle.std.specs.Prelude.{ℕ, ◌≡◌, List, [], ◌∷◌, Bool, true, false, not, map, ◌==◌, ◌||◌, nat_le, length, take, bytes_eq, Option, Some, None, option_and_then, if◌then◌else◌}
use Rattle.std.specs.List.{list_all}
use Rattle.std.specs.Char.{is_ascii_whitespace, to_ascii_lowercase}

-- ---- bytes; ASCII whitespace is 0x09, 0x0A, 0x0C, 0x0D and 0x20

abbrev pub is_space : ℕ → Bool
is_space byte = is_ascii_whitespace byte

-- a space or `/`
abbrev pub is_space_or_slash : ℕ → Bool
is_space_or_slash byte = is_space byte || byte == 0x2F

-- a space or `>` ends the name of a tag, and a value without quotes
abbrev pub ends_value : ℕ → Bool
ends_value byte = is_space byte || byte == 0x3E

-- a space, `/`, `>` or `=` ends the name of an attribute
abbrev pub ends_name : ℕ → Bool
ends_name byte = is_space_or_slash byte || (byte == 0x3E || byte == 0x3D)

-- a space or `;` ends the label in `text/html; charset=..`
abbrev pub ends_label : ℕ → Bool
ends_label byte = is_space byte || byte == 0x3B

-- `"` or `'`
abbrev pub is_quote : ℕ → Bool
is_quote byte = byte == 0x22 || byte == 0x27

-- a space or a control character
abbrev pub is_blank : ℕ → Bool
is_blank byte = nat_le byte 0x20

-- ---- places

-- what a step gives, if the one before it gave something
infixl 10 ◌>>=◌
abbrev pub ◌>>=◌ : {A B : Type 0} → Option A → (A → Option B) → Option B
o >>= f = option_and_then f o

-- whether the bytes begin with a byte that passes
abbrev pub begins : (ℕ → Bool) → List ℕ → Bool
begins passes [] = false
begins passes (byte ∷ rest) = passes byte

-- the bytes from the first one on that does not pass, and the bytes before it
unfoldable pub after_while : (ℕ → Bool) → List ℕ → List ℕ
after_while passes [] = []
after_while passes (byte ∷ rest) = if passes byte then after_while passes rest else byte ∷ rest

unfoldable pub front_while : (ℕ → Bool) → List ℕ → List ℕ
front_while passes [] = []
front_while passes (byte ∷ rest) = if passes byte then byte ∷ front_while passes rest else []

-- the bytes before a byte, and those behind it, if it is there
abbrev pub behind_front : List ℕ → List ℕ → Option (List ℕ × List ℕ)
behind_front front [] = None
behind_front front (byte ∷ behind) = Some (front, behind)

unfoldable pub cut_at : ℕ → List ℕ → Option (List ℕ × List ℕ)
cut_at byte bytes = behind_front (front_while (λ each. not (each == byte)) bytes) (after_while (λ each. not (each == byte)) bytes)

-- what stands between a quote, with which the bytes begin, and the next such quote; and what stands behind that
unfoldable pub in_quotes : List ℕ → Option (List ℕ × List ℕ)
in_quotes [] = None
in_quotes (quote ∷ rest) = if is_quote quote then cut_at quote rest else None

-- whether the bytes begin with a word in letters of any case, which is given in lower case
unfoldable pub begins_with_word : List ℕ → List ℕ → Bool
begins_with_word word bytes = bytes_eq (map to_ascii_lowercase (take (length word) bytes)) word

-- the bytes from the first place on at which they pass
unfoldable pub from_first : (List ℕ → Bool) → List ℕ → Option (List ℕ)
from_first passes [] = None
from_first passes (byte ∷ rest) = if passes (byte ∷ rest) then Some (byte ∷ rest) else from_first passes rest

-- a value that can stand without quotes
abbrev pub IsPlain : List ℕ → Type 0
IsPlain value = (begins is_quote value ≡ false) × (list_all (λ byte. not (ends_value byte)) value ≡ true)
