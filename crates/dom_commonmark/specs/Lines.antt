-- Which lines begin a block in CommonMark 0.31 or GFM, where no space is before them.
use Rattle.std.specs.Prelude.{◌≡◌, ◌<◌, ◌+◌, ℕ, suc, ◌==◌, ◌&&◌, ◌||◌, nat_lt, Bool, true, false, List, [], ◌∷◌, ◌++◌, ◌⊎◌, length, take}
use Rattle.std.specs.Prelude.{drop, Option, MatchOption, String, string_bytes, slice_index_or, if◌then◌else◌}
use Rattle.std.specs.List.{list_all}
use Rattle.std.specs.Char.{is_ascii_digit, is_ascii_punctuation}
use Rattle.dom_nodes.specs.Ascii.{asterisk, backslash, backtick, colon, dot, equals_sign, greater_than, hyphen, left_bracket, less_than}
use Rattle.dom_nodes.specs.Ascii.{number_sign, plus_sign, right_parenthesis, space, tab, tilde, underscore, vertical_bar}
use Rattle.dom_commonmark.specs.Inline.{begins_tag, first_of}

abbrev pub is_nil : List ℕ → Bool
is_nil [] = true
is_nil (b ∷ text) = false

abbrev pub is_blank : ℕ → Bool
is_blank b = b == space || b == tab

-- a blank is at the index, or the line ends there
abbrev pub is_blank_at : List ℕ → ℕ → Bool
is_blank_at line at = is_blank (slice_index_or line at space)

-- how many bytes at the start of the line pass the test
abbrev pub leading : (ℕ → Bool) → List ℕ → ℕ
leading test [] = 0
leading test (b ∷ line) = if test b then suc (leading test line) else 0

abbrev pub is_number_sign : ℕ → Bool
is_number_sign b = b == number_sign

-- an ATX heading (4.2): one to six `#`, and a blank or the end of the line
abbrev pub begins_heading : List ℕ → Bool
begins_heading line =
    let count = leading is_number_sign line in
    if count == 0 then false else if nat_lt 6 count then false else is_blank_at line count

-- an item with a bullet (5.2): `-` or `+`, and a blank or the end of the line
abbrev pub begins_bullet : List ℕ → Bool
begins_bullet line = if first_of line == hyphen || first_of line == plus_sign then is_blank_at line 1 else false

-- an item with a number (5.2): one to nine digits, `.` or `)`, and a blank or the end of the line
abbrev pub is_stop : ℕ → Bool
is_stop b = b == dot || b == right_parenthesis

abbrev pub begins_number : List ℕ → Bool
begins_number line =
    let count = leading is_ascii_digit line in
    if count == 0 then false else if nat_lt 9 count then false
    else if is_stop (slice_index_or line count 0) then is_blank_at line (count + 1) else false

-- a thematic break of dashes (4.1), the line of dashes below a heading (4.3), and the line below the header of a table (GFM, 4.10): all of
-- them have only such bytes and blanks
abbrev pub is_dash : ℕ → Bool
is_dash b = b == hyphen || b == colon || b == vertical_bar

abbrev pub is_dash_or_blank : ℕ → Bool
is_dash_or_blank b = is_dash b || is_blank b

abbrev pub is_dashes : List ℕ → Bool
is_dashes line = is_dash (first_of line) && list_all is_dash_or_blank line

-- the line of `=` below a heading (4.3), which has only those and blanks
abbrev pub is_equals_or_blank : ℕ → Bool
is_equals_or_blank b = b == equals_sign || is_blank b

abbrev pub is_underline : List ℕ → Bool
is_underline line = first_of line == equals_sign && list_all is_equals_or_blank line

-- a quote (5.1), a heading, an item with a bullet, or a line of signs alone
abbrev pub begins_sign : List ℕ → Bool
begins_sign line =
    if first_of line == greater_than then true
    else if begins_heading line then true
    else if begins_bullet line then true
    else if is_dashes line then true
    else is_underline line

-- what can begin with a mark of a line's inside: a thematic break or an item of stars (4.1, 5.2), a thematic break of underscores (4.1), a
-- fence (4.5), a definition of a link (4.7) or of a footnote (GFM), and HTML (4.6)
abbrev pub begins_mark : List ℕ → Bool
begins_mark [] = false
begins_mark (b ∷ line) =
    b == asterisk || b == underscore || b == backtick || b == tilde || b == left_bracket || (b == less_than && begins_tag (first_of line))

-- the line can begin another block than a paragraph, or make a heading or a table of the line above it
abbrev pub begins_block : List ℕ → Bool
begins_block line = if begins_number line then true else if begins_sign line then true else begins_mark line

-- the line with a backslash at an index
abbrev pub marked_at : List ℕ → ℕ → List ℕ
marked_at line at = take at line ++ backslash ∷ drop at line

-- at the index the line has punctuation, and with a backslash before that it begins no block
pub record IsLineMark (line : List ℕ) (at : ℕ) : Type 0 where
  pub within : at < length line
  pub sign : is_ascii_punctuation (slice_index_or line at 0) ≡ true
  pub ascii : slice_index_or line at 0 < 128
  pub begins : begins_block (marked_at line at) ≡ false

abbrev pub MarksLine : List ℕ → Option ℕ → Type 0
MarksLine line result = MatchOption result (begins_block line ≡ begins_mark line) (λ at. IsLineMark line at)

-- The line was written, with a backslash before some punctuation of it if need be, and begins no block, unless it begins with a mark of a
-- line's inside.
pub record IsWrittenLine (line piece : List ℕ) : Type 0 where
  pub same : (piece ≡ line) ⊎ ((at : ℕ) × IsLineMark line at × (piece ≡ marked_at line at))
  pub begins : begins_mark line ≡ false → begins_block piece ≡ false

abbrev pub AppendsLine : {A : Type 0} → (old new : String A) → List ℕ → Type 0
AppendsLine old new line = (piece : List ℕ) × (string_bytes new ≡ string_bytes old ++ piece) × IsWrittenLine line piece
