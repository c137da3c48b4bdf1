-- How CSS writes a text as a string in quotes.
use Rattle.std.specs.Prelude.{ℕ, ◌/◌, ◌%◌, List, [], ◌∷◌, ◌++◌, Bool, ◌||◌, nat_eq, nat_lt, cond, chars, encode_utf8_all, map}
use Rattle.std.specs.Char.{digit_char}
use Rattle.std.specs.List.{flat_map}
use Rattle.dom_selectors.specs.Characters.{replacement_character}
use Rattle.dom_nodes.specs.Ascii.{backslash, delete, double_quote, space}
use Rattle.dom_selectors.specs.Strings.{SpellsString}

-- the control characters U+0001 to U+001F and U+007F
abbrev pub is_control : ℕ → Bool
is_control c = nat_lt c space || nat_eq c delete

-- the code point of a control character in lower-case hexadecimal
abbrev pub hex_of : ℕ → List ℕ
hex_of c = cond (nat_lt c 16) (digit_char c ∷ []) (digit_char (c / 16) ∷ digit_char (c % 16) ∷ [])

-- an escaped code point: `\`, its hexadecimal digits and a space
abbrev pub hex_escape : ℕ → List ℕ
hex_escape c = backslash ∷ hex_of c ++ space ∷ []

-- U+FFFD replaces U+0000
abbrev pub shown : ℕ → ℕ
shown c = cond (nat_eq c 0) replacement_character c

-- One character of the string: U+FFFD for U+0000, an escaped code point for a control character, `\` before `"` and `\`, and any
-- other character unchanged.
abbrev pub css_char : ℕ → List ℕ
css_char c = cond (nat_eq c 0) (replacement_character ∷ []) (cond (is_control c) (hex_escape c) (cond (nat_eq c double_quote || nat_eq c backslash) (backslash ∷ c ∷ []) (c ∷ [])))

-- the characters of the string with its quotes
abbrev pub css_string : List ℕ → List ℕ
css_string text = double_quote ∷ flat_map css_char text ++ double_quote ∷ []

-- Whatever follows the string, the grammar reads it as this text, with U+FFFD for U+0000.
abbrev pub IsReadBack : List ℕ → Type 0
IsReadBack text = (rest : List ℕ) → SpellsString (encode_utf8_all (map shown text)) (css_string text ++ rest) rest

-- the string for a UTF-8 text, as UTF-8
abbrev pub css_text : List ℕ → List ℕ
css_text text = encode_utf8_all (css_string (chars text))
