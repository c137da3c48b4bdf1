-- Where an inline construct of CommonMark 0.31 or GFM can begin or end. `before` is what stands before a byte, the nearest first.
use Rattle.std.specs.Prelude.{ℕ, ◌==◌, ◌&&◌, ◌||◌, not, Bool, true, false, List, [], ◌∷◌, slice_index_or, if◌then◌else◌}
use Rattle.std.specs.Char.{is_ascii_alphabetic, is_ascii_alphanumeric, is_ascii_graphic}
use Rattle.dom_nodes.specs.Ascii.{ampersand, asterisk, at_sign, backslash, backtick, colon, dot, exclamation_mark, greater_than, left_bracket, less_than, number_sign, question_mark, right_bracket, semicolon, slash, space, tilde, underscore, vertical_bar}

-- the nearest byte, and 0 if there is none
abbrev pub first_of : List ℕ → ℕ
first_of text = slice_index_or text 0 0

-- a letter, a digit or a space, at which nothing begins or ends
abbrev pub is_plain : ℕ → Bool
is_plain b = b == space || is_ascii_alphanumeric b

-- a delimiter run with whitespace on both sides is neither left-flanking nor right-flanking (6.2)
abbrev pub is_in_spaces : List ℕ → List ℕ → Bool
is_in_spaces before after = first_of before == space && first_of after == space

-- a `_` with letters or digits on both sides can neither open nor close emphasis (6.2, rules 2 and 4)
abbrev pub is_in_word : List ℕ → List ℕ → Bool
is_in_word before after = is_ascii_alphanumeric (first_of before) && is_ascii_alphanumeric (first_of after)

-- what follows the `<` of an autolink (6.5) or of HTML (6.6)
abbrev pub begins_tag : ℕ → Bool
begins_tag b = is_ascii_alphabetic b || b == slash || b == exclamation_mark || b == question_mark

-- a byte that may stand before the `@` of an address of mail (6.5), and some that may not
abbrev pub is_in_mail : ℕ → Bool
is_in_mail b = if b == less_than || b == greater_than || b == backslash then false else is_ascii_graphic b

-- what follows the `<` of an address of mail (6.5), up to its `@`; `at_end` is the answer where the text ends before one
abbrev pub begins_mail : (at_end : Bool) → List ℕ → Bool
begins_mail at_end [] = at_end
begins_mail at_end (b ∷ after) = if b == at_sign then true else if is_in_mail b then begins_mail at_end after else false

-- what follows the `&` of a character reference (2.5): letters, digits and `#`, up to a semicolon
abbrev pub is_reference : List ℕ → Bool
is_reference [] = false
is_reference (b ∷ after) = if b == semicolon then true else if is_ascii_alphanumeric b || b == number_sign then is_reference after else false

-- what follows the `:` of an extended autolink (GFM, 6.9)
abbrev pub begins_address : List ℕ → Bool
begins_address after = first_of after == slash && slice_index_or after 1 0 == slash

-- `www`, before the first `.` of an extended autolink (GFM, 6.9)
abbrev pub is_www : List ℕ → Bool
is_www before = slice_index_or before 0 0 == 119 && (slice_index_or before 1 0 == 119 && slice_index_or before 2 0 == 119)

-- at the byte a construct can begin or end: code (6.1), a link (6.3), emphasis or strikethrough (6.2), an autolink or HTML (6.5, 6.6), a
-- character reference (2.5), an image (6.4), an extended autolink (GFM, 6.9), or a cell (GFM, 4.10)
abbrev pub can_begin : (cell : Bool) → List ℕ → ℕ → List ℕ → Bool
can_begin cell before b after =
    if b == backtick || b == left_bracket || b == right_bracket then true
    else if b == asterisk || b == tilde then not (is_in_spaces before after)
    else if b == underscore then not (is_in_word before after)
    else if b == less_than then begins_tag (first_of after) || begins_mail false after
    else if b == ampersand then is_reference after
    else if b == exclamation_mark then first_of after == left_bracket
    else if b == colon then begins_address after
    else if b == dot then is_www before
    else b == vertical_bar && cell
