-- Strings in quotes, as in CSS Syntax.
use Rattle.std.specs.Prelude.{◌≡◌, ℕ, List, [], ◌∷◌, Bool, true, false, ◌&&◌, ◌||◌, nat_eq, cond, Option, Some, None, encode_utf8_all, MatchBool}
use Rattle.dom_nodes.specs.Ascii.{backslash, carriage_return, double_quote, line_feed, single_quote}
use Rattle.dom_selectors.specs.Spelling.{Run}
use Rattle.dom_selectors.specs.Characters.{is_line_end, begins}
use Rattle.dom_selectors.specs.Names.{SpellsEscape}

abbrev pub is_quote : ℕ → Bool
is_quote c = nat_eq c double_quote || nat_eq c single_quote

-- the text without a leading line end; a carriage return and a line feed count as one
abbrev pub after_line_end : List ℕ → List ℕ
after_line_end [] = []
after_line_end (c ∷ []) = []
after_line_end (c ∷ d ∷ text) = cond (nat_eq c carriage_return && nat_eq d line_feed) text (d ∷ text)

-- what follows a `\` in a string: a line end, which adds nothing, or an escape
abbrev pub SpellsStringEscape : Option ℕ → List ℕ → List ℕ → Type 0
SpellsStringEscape v text rest = MatchBool (begins is_line_end text) ((v ≡ None) × (rest ≡ after_line_end text)) ((c : ℕ) × SpellsEscape c text rest × (v ≡ Some c))

-- a character of a string that isn't its quote, or a `\` and what follows it
abbrev pub SpellsPiece : ℕ → Option ℕ → List ℕ → List ℕ → Type 0
SpellsPiece quote v [] rest = ⊥
SpellsPiece quote v (c ∷ more) rest =
    (nat_eq c quote ≡ false) × MatchBool (nat_eq c backslash) (SpellsStringEscape v more rest) ((is_line_end c ≡ false) × (v ≡ Some c) × (rest ≡ more))

-- the text does not start with the string's quote
abbrev pub goes_on_in : ℕ → List ℕ → Bool
goes_on_in quote [] = true
goes_on_in quote (c ∷ more) = cond (nat_eq c quote) false true

-- the characters of the string, without the escaped line ends
abbrev pub present : List (Option ℕ) → List ℕ
present [] = []
present (None ∷ pieces) = present pieces
present (Some c ∷ pieces) = c ∷ present pieces

-- a string in quotes, whose text is UTF-8
pub record SpellsString (bytes text rest : List ℕ) : Type 0 where
  pub quote : ℕ
  pub is_quote : is_quote quote ≡ true
  pub inside : List ℕ
  pub opens : text ≡ quote ∷ inside
  pub pieces : List (Option ℕ)
  pub run : Run (SpellsPiece quote) (goes_on_in quote) pieces inside (quote ∷ rest)
  pub is : bytes ≡ encode_utf8_all (present pieces)
