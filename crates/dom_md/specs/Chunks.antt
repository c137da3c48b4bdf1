-- How a chunk of text is escaped so that Markdown reads it literally. A mark is a character that Markdown would interpret.
use Rattle.std.specs.Prelude.{ℕ, ◌==◌, ◌-◌, ◌&&◌, ◌||◌, nat_lt, Bool, false, slice_index_or, List, [], ◌∷◌, ◌++◌, length, take, drop, Option, Some, None, if◌then◌else◌}
use Rattle.std.specs.Char.{is_ascii_digit}
use Rattle.std.specs.List.{list_all}
use Rattle.dom_nodes.specs.Ascii.{asterisk, backslash, backtick, dot, equals_sign, exclamation_mark, greater_than, hyphen, left_bracket, less_than, number_sign, plus_sign, right_bracket, right_parenthesis, tilde, underscore, vertical_bar}

-- the marks: `\`, backtick, `*`, `_`, `[`, `]`, `<`, `|` and `~`
abbrev pub is_mark : ℕ → Bool
is_mark b =
    b == backslash || b == backtick || b == asterisk || b == underscore || b == left_bracket || b == right_bracket
    || b == less_than || b == vertical_bar || b == tilde

-- the byte needs a backslash anywhere: it is a mark, or a `!` before a `[`
abbrev pub is_marked : ℕ → List ℕ → Bool
is_marked b [] = is_mark b
is_marked b (next ∷ text) = is_mark b || (b == exclamation_mark && next == left_bracket)

-- a backslash before each byte that needs one anywhere
abbrev pub with_marks : List ℕ → List ℕ
with_marks [] = []
with_marks (b ∷ text) = if is_marked b text then backslash ∷ b ∷ with_marks text else b ∷ with_marks text

-- the first character is `#`, `>`, `-` or `+`, which begin a block at the start of a line
abbrev pub begins_block : List ℕ → Bool
begins_block [] = false
begins_block (b ∷ text) = b == number_sign || b == greater_than || b == hyphen || b == plus_sign

-- one or more `=` and nothing else, which underline a heading
abbrev pub is_underline : List ℕ → Bool
is_underline [] = false
is_underline (b ∷ text) = list_all (λ c. c == equals_sign) (b ∷ text)

-- `.` or `)`, which end the number of a list item
abbrev pub is_stop : ℕ → Bool
is_stop b = b == dot || b == right_parenthesis

-- one or more digits and then a single `.` or `)`
abbrev pub is_list_marker : List ℕ → Bool
is_list_marker chunk = ends_at (length chunk - 1) chunk
  where
    ends_at : ℕ → List ℕ → Bool
    ends_at last chunk = nat_lt 0 last && list_all is_ascii_digit (take last chunk) && is_stop (slice_index_or chunk last 0)

-- the index at which a backslash is needed only if the chunk begins a line
abbrev pub line_mark : List ℕ → Option ℕ
line_mark chunk =
    if begins_block chunk || is_underline chunk then Some 0
    else if is_list_marker chunk then Some (length chunk - 1)
    else None

-- the chunk, escaped, with a further backslash at that index
abbrev pub with_marks_at : Option ℕ → List ℕ → List ℕ
with_marks_at None chunk = with_marks chunk
with_marks_at (Some at) chunk = with_marks (take at chunk) ++ backslash ∷ with_marks (drop at chunk)

abbrev pub escaped : (line_start : Bool) → List ℕ → List ℕ
escaped line_start chunk = with_marks_at (if line_start then line_mark chunk else None) chunk
