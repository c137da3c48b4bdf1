-- Identifiers and their escapes, as in CSS Syntax.
use Rattle.std.specs.Prelude.{◌≡◌, ℕ, List, [], ◌∷◌, Bool, true, false, ◌&&◌, ◌||◌, nat_eq, cond, drop, take, encode_utf8_all, MatchBool}
use Rattle.std.specs.Char.{is_digit, is_ascii_whitespace}
use Rattle.std.specs.List.{prefix_len}
use Rattle.std.specs.Str.Parse.{digits_value}
use Rattle.std.proofs.Math.Utf8.{scalar}
use Rattle.dom_nodes.specs.Ascii.{backslash, carriage_return, hyphen, line_feed}
use Rattle.dom_selectors.specs.Spelling.{Run}
use Rattle.dom_selectors.specs.Characters.{replacement_character, is_line_end, is_name_start, is_name_char, begins}

abbrev pub is_hex : ℕ → Bool
is_hex c = is_digit c 16

-- how many hexadecimal digits the text starts with, at most six
abbrev pub hex_len : List ℕ → ℕ
hex_len text = prefix_len is_hex (take 6 text)

-- the text without one leading whitespace character; a carriage return and a line feed count as one
abbrev pub after_space : List ℕ → List ℕ
after_space [] = []
after_space (c ∷ []) = cond (is_ascii_whitespace c) [] (c ∷ [])
after_space (c ∷ d ∷ text) = cond (nat_eq c carriage_return && nat_eq d line_feed) text (cond (is_ascii_whitespace c) (d ∷ text) (c ∷ d ∷ text))

-- the character with this code point, or U+FFFD if it is 0, a surrogate or above U+10FFFF
abbrev pub char_of : ℕ → ℕ
char_of n = cond (nat_eq n 0) replacement_character (cond (scalar n) n replacement_character)

-- what follows a `\`: hexadecimal digits and optional whitespace, or any character but a line end
abbrev pub SpellsEscape : ℕ → List ℕ → List ℕ → Type 0
SpellsEscape v [] rest = ⊥
SpellsEscape v (c ∷ more) rest = MatchBool (is_hex c)
    ((v ≡ char_of (digits_value 16 (take (hex_len (c ∷ more)) (c ∷ more)))) × (rest ≡ after_space (drop (hex_len (c ∷ more)) (c ∷ more))))
    ((is_line_end c ≡ false) × (v ≡ c) × (rest ≡ more))

-- a character of an identifier, or a `\` and what follows it
abbrev pub SpellsNameChar : ℕ → List ℕ → List ℕ → Type 0
SpellsNameChar v [] rest = ⊥
SpellsNameChar v (c ∷ more) rest = MatchBool (is_name_char c) ((v ≡ c) × (rest ≡ more)) ((c ≡ 92) × SpellsEscape v more rest)

abbrev pub goes_on : List ℕ → Bool
goes_on text = begins (λ c. is_name_char c || nat_eq c backslash) text

abbrev pub starts : ℕ → Bool
starts c = is_name_start c || nat_eq c backslash

-- the start of an identifier: `--`, or an optional `-` and then a character that can start a name or an escape
abbrev pub starts_name : List ℕ → Bool
starts_name [] = false
starts_name (c ∷ more) = starts c || (nat_eq c hyphen && begins (λ d. nat_eq d hyphen || starts d) more)

-- an identifier, as long as possible, as UTF-8
pub record SpellsName (bytes text rest : List ℕ) : Type 0 where
  pub starts : starts_name text ≡ true
  pub name : List ℕ
  pub run : Run SpellsNameChar goes_on name text rest
  pub is : bytes ≡ encode_utf8_all name
