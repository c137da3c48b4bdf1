-- Ways to write the characters of a value.
use Rattle.std.specs.Prelude.{◌≡◌, ℕ, ◌==◌, true, [], ◌∷◌, if◌then◌else◌}
use Rattle.std.specs.Str.{all_scalars, encode_utf8_all}
use Rattle.standard_tokens.specs.PlainMarkup.{Piece, Itself, Amp, Quot, Nbsp, character, is_plain_piece, is_raw_char, is_value_char}
use Rattle.standard_tokens.specs.PlainMarkup.{written_piece}
use Rattle.standard_laws.specs.TreeItems.{text_piece}
use Rattle.dom_markup.specs.WrittenTrees.{ValueChar}

-- each character is written as a piece that represents it, and that a value in double quotes may contain
pub record WritesValues (by : ValueChar) (piece : ℕ → Piece) : Type 0 where
  pub writes : (c : ℕ) → all_scalars (c ∷ []) ≡ true → encode_utf8_all (written_piece (piece c)) ≡ by c
  pub means : (c : ℕ) → character (piece c) ≡ c
  pub plain : (c : ℕ) → is_raw_char c ≡ true → is_plain_piece is_value_char (piece c) ≡ true

-- as HTML is written
abbrev pub value_piece : ℕ → Piece
value_piece c = if c == 38 then Amp else if c == 34 then Quot else if c == 160 then Nbsp else Itself c

-- where `<` and `>` are escaped in values too
abbrev pub safe_piece : ℕ → Piece
safe_piece c = if c == 34 then Quot else text_piece c
