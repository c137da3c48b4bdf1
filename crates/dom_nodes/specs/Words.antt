-- The words of a text, separated by ASCII whitespace, as in an attribute `class`.
use Rattle.std.specs.Prelude.{ℕ, Bool, true, false, List, [], ◌∷◌, codes, if◌then◌else◌}
use Rattle.std.specs.Char.{is_ascii_whitespace}
use Rattle.std.specs.List.{filter, list_any}
use Rattle.std.specs.Str.{bytes_eq}
use Rattle.std.specs.Option.{option_map_or}
use Rattle.dom_nodes.specs.declared.name.Attr.{Attr}
use Rattle.dom_nodes.specs.Attrs.{attr_of}

-- The pieces with this byte put in front of the first one.
abbrev pub with_byte : ℕ → List (List ℕ) → List (List ℕ)
with_byte c [] = (c ∷ []) ∷ []
with_byte c (piece ∷ pieces) = (c ∷ piece) ∷ pieces

-- The pieces between ASCII whitespace (tab, line feed, form feed, carriage return, space), empty
-- ones too.
abbrev pub pieces_of : List ℕ → List (List ℕ)
pieces_of [] = [] ∷ []
pieces_of (c ∷ text) = if is_ascii_whitespace c then [] ∷ pieces_of text else with_byte c (pieces_of text)

-- Whether the piece isn't empty.
abbrev pub has_bytes : List ℕ → Bool
has_bytes [] = false
has_bytes (c ∷ text) = true

-- The words of a text: its pieces that aren't empty.
abbrev pub words_of : List ℕ → List (List ℕ)
words_of text = filter has_bytes (pieces_of text)

-- Whether the text is one of the words, byte by byte.
abbrev pub is_among : List ℕ → List (List ℕ) → Bool
is_among text words = list_any (λ word. bytes_eq word text) words

-- The words of the first attribute `class`; none when there is no such attribute.
abbrev pub class_words : List Attr → List (List ℕ)
class_words attrs = option_map_or words_of (attr_of attrs (codes "class")) []
