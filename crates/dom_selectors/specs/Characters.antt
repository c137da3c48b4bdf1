-- The character classes of the grammar.
use Rattle.std.specs.Prelude.{ℕ, ◌+◌, List, [], ◌∷◌, Bool, false, ◌||◌, nat_eq, nat_le, nat_lt, cond, drop, take}
use Rattle.std.specs.Char.{is_ascii_alphabetic, is_ascii_digit, is_ascii_whitespace}
use Rattle.std.specs.List.{prefix_len}
use Rattle.std.specs.Str.Parse.{digits_value}
use Rattle.dom_nodes.specs.Ascii.{carriage_return, form_feed, hyphen, line_feed, underscore}

-- U+FFFD, which replaces what is no character
abbrev pub replacement_character : ℕ
replacement_character = 65533

-- a line feed, form feed or carriage return
abbrev pub is_line_end : ℕ → Bool
is_line_end c = nat_eq c line_feed || nat_eq c form_feed || nat_eq c carriage_return

-- a character that can start an identifier: an ASCII letter, `_`, or a character from U+0080 on
abbrev pub is_name_start : ℕ → Bool
is_name_start c = is_ascii_alphabetic c || nat_eq c underscore || nat_le 128 c

-- a character of an identifier: one that can start it, a digit or `-`
abbrev pub is_name_char : ℕ → Bool
is_name_char c = is_name_start c || is_ascii_digit c || nat_eq c hyphen

-- the text without leading tabs, line feeds, form feeds, carriage returns and spaces
abbrev pub after_white : List ℕ → List ℕ
after_white text = drop (prefix_len is_ascii_whitespace text) text

-- the text starts with a character that passes the test
abbrev pub begins : (ℕ → Bool) → List ℕ → Bool
begins test [] = false
begins test (c ∷ cs) = test c

-- how often a character occurs in the text
abbrev pub how_many : ℕ → List ℕ → ℕ
how_many c [] = 0
how_many c (d ∷ text) = cond (nat_eq d c) 1 0 + how_many c text

-- how many digits the text starts with
abbrev pub digits_len : List ℕ → ℕ
digits_len text = prefix_len is_ascii_digit text

-- the number that these digits denote
abbrev pub number_at : List ℕ → ℕ
number_at text = digits_value 10 (take (digits_len text) text)

-- the greatest number that is allowed
abbrev pub greatest_number : ℕ
greatest_number = 2147483647

-- at how many positions a greater number starts
abbrev pub how_many_large : List ℕ → ℕ
how_many_large [] = 0
how_many_large (c ∷ text) = cond (nat_lt greatest_number (number_at (c ∷ text))) 1 0 + how_many_large text
