-- The character classes of mini selectors, and splitting a text by them.
use Rattle.std.specs.Prelude.{ℕ, List, Bool, ◌||◌, not, nat_eq, drop}
use Rattle.std.specs.Char.{is_ascii_alphanumeric}
use Rattle.std.specs.List.{prefix_len}
use Rattle.dom_nodes.specs.Ascii.{space, tab, line_feed, carriage_return, hyphen}
use Rattle.dom_selectors.specs.declared.mini_selector.scan.CharKind.{CharKind}
use Rattle.dom_selectors.specs.declared.mini_selector.scan.CharKind.TheVariants.{Blank, Word}

abbrev pub is_blank : ℕ → Bool
is_blank c = nat_eq c space || nat_eq c tab || nat_eq c line_feed || nat_eq c carriage_return

-- an ASCII letter, a digit or `-`
abbrev pub is_word : ℕ → Bool
is_word c = is_ascii_alphanumeric c || nat_eq c hyphen

-- a character of this class
abbrev pub passes : CharKind → ℕ → Bool
passes Blank c = is_blank c
passes Word c = is_word c

-- any character but this one
abbrev pub isnt : ℕ → ℕ → Bool
isnt stop c = not (nat_eq c stop)

-- the text without the leading characters that pass the test
abbrev pub after_while : (ℕ → Bool) → List ℕ → List ℕ
after_while test text = drop (prefix_len test text) text

abbrev pub after_blanks : List ℕ → List ℕ
after_blanks text = after_while is_blank text
