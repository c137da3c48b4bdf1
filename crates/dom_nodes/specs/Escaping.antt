-- Escaping of text as the value of an attribute.
use Rattle.std.specs.Prelude.{ℕ, ◌==◌, if◌then◌else◌, List, codes, encode_utf8}
use Rattle.std.specs.List.{flat_map}
use Rattle.std.specs.Str.{chars}
use Rattle.dom_nodes.specs.Ascii.{ampersand, double_quote}

-- A no-break space as `&nbsp;`, every other character as itself in UTF-8.
abbrev pub spaced_char : ℕ → List ℕ
spaced_char c = if c == 160 then codes "&nbsp;" else encode_utf8 c

-- A character, as it is written in the value of an attribute.
abbrev pub value_char : ℕ → List ℕ
value_char c = if c == ampersand then codes "&amp;" else if c == double_quote then codes "&quot;" else spaced_char c

-- A text (in UTF-8), as it is written in the value of an attribute.
abbrev pub escaped_value : List ℕ → List ℕ
escaped_value text = flat_map value_char (chars text)
