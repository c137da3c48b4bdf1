-- The text of a page whose bytes are in UTF-8.
use Rattle.std.specs.Prelude.{◌≡◌, ◌==◌, ◌&&◌, ◌++◌, ◌∷◌, [], Bool, List, Option, cond, encode_utf8_all, if◌then◌else◌, map, unwrap_or, ℕ}
use Rattle.encodings.specs.declared.encoding.Encoding.TheVariants.{Utf8}
use Rattle.text_decoding.specs.Decoding.{characters, characters_behind}
use Rattle.page_reading.specs.declared.utf8_pieces.Utf8Pieces.{Utf8Pieces}

-- the characters that a decoder gives, with U+FFFD in place of each error
abbrev pub with_replacements : List (Option ℕ) → List ℕ
with_replacements decoded = map (λ character. unwrap_or character 0xFFFD) decoded

-- the characters behind a byte order mark, if the text begins with one
abbrev pub unmarked : List ℕ → List ℕ
unmarked [] = []
unmarked (c ∷ cs) = cond (c == 0xFEFF) cs (c ∷ cs)

-- the text of a page in UTF-8: without a byte order mark at its start, and with U+FFFD for bytes that are not UTF-8
abbrev pub utf8_text : List ℕ → List ℕ
utf8_text bytes = unmarked (with_replacements (characters Utf8 bytes))

-- that text, encoded in UTF-8
abbrev pub utf8_page : List ℕ → List ℕ
utf8_page bytes = encode_utf8_all (utf8_text bytes)

-- a text without a byte order mark, if it is the first one
abbrev pub unmarked_if : Bool → List ℕ → List ℕ
unmarked_if first text = if first then unmarked text else text

-- the text of the bytes that come, behind those that came in pieces
abbrev pub text_behind : Utf8Pieces → List ℕ → List ℕ
text_behind pieces more = unmarked_if pieces.is_start (with_replacements (characters_behind pieces.decoder more))
