-- How a reader of CommonMark and GFM takes a piece of a line as text.
use Rattle.std.specs.Prelude.{◌≡◌, ℕ, ◌==◌, Bool, true, false, List, [], ◌∷◌, ◌++◌, Option, Some, None, String, string_bytes, if◌then◌else◌}
use Rattle.std.specs.Char.{is_ascii_alphanumeric, is_ascii_punctuation}
use Rattle.dom_nodes.specs.Ascii.{backslash, left_bracket, number_sign, semicolon, slash}
use Rattle.dom_commonmark.specs.Inline.{can_begin, first_of}
use Rattle.dom_commonmark.specs.Lines.{begins_mark, is_nil}
use Rattle.dom_commonmark.specs.declared.escaping.Place.{Place}

-- the byte before a text that was read
abbrev pub behind : ℕ → Option (List ℕ) → Option (List ℕ)
behind b None = None
behind b (Some text) = Some (b ∷ text)

-- The text that a piece of a line is read as, where no construct can begin or end in it: a backslash and the punctuation behind it are
-- that punctuation (2.4), and any other byte is itself (6.8). `None` where a construct can begin or end, or where a backslash is not
-- followed by punctuation in the piece. `before` is what stands before the piece, the nearest first, and `after` what stands behind it;
-- `held` says that a backslash precedes.
abbrev pub read_as_text : (held : Bool) → (cell : Bool) → (before piece after : List ℕ) → Option (List ℕ)
read_as_text false cell before [] after = Some []
read_as_text true cell before [] after = None
read_as_text false cell before (b ∷ piece) after =
    if b == backslash then read_as_text true cell (b ∷ before) piece after
    else if can_begin cell before b (piece ++ after) then None
    else behind b (read_as_text false cell (b ∷ before) piece after)
read_as_text true cell before (b ∷ piece) after =
    if is_ascii_punctuation b then behind b (read_as_text false cell (b ∷ before) piece after) else None

-- what may stand before a text: nothing, or something that doesn't end in a letter or digit
abbrev pub IsFront : List ℕ → Type 0
IsFront before = is_ascii_alphanumeric (first_of before) ≡ false

-- what may stand behind a text: nothing, or something that begins with no letter or digit, no `;`, `#` and `/`, and with `[` only where
-- the text is followed by a link
pub record IsBack (place : Place) (after : List ℕ) : Type 0 where
  pub no_word : is_ascii_alphanumeric (first_of after) ≡ false
  pub no_semicolon : (first_of after == semicolon) ≡ false
  pub no_number_sign : (first_of after == number_sign) ≡ false
  pub no_slash : (first_of after == slash) ≡ false
  pub only_links : (first_of after == left_bracket) ≡ true → place.before_link ≡ true

-- a piece was appended that is read as the text, between any two such neighbours, and that begins no block at the beginning of a line
pub record Reads (place : Place) (old new text : List ℕ) : Type 0 where
  pub piece : List ℕ
  pub is : new ≡ old ++ piece
  pub reads : (before after : List ℕ) → IsFront before → IsBack place after → read_as_text false place.cell before piece after ≡ Some text
  pub starts : is_nil text ≡ false → (after : List ℕ) → begins_mark (piece ++ after) ≡ false

abbrev pub ReadsAsText : {A : Type 0} → Place → (old new : String A) → List ℕ → Type 0
ReadsAsText place old new text = Reads place (string_bytes old) (string_bytes new) text
