-- Whether an attribute's value passes the comparison of an attribute selector. Values are UTF-8 texts.
use Rattle.std.specs.Prelude.{ℕ, ◌-◌, List, [], ◌∷◌, Bool, true, false, ◌&&◌, ◌||◌, nat_eq, not, drop, length}
use Rattle.std.specs.Char.{to_ascii_lowercase}
use Rattle.std.specs.List.{list_any}
use Rattle.dom_nodes.specs.Ascii.{hyphen}
use Rattle.dom_nodes.specs.Words.{words_of}
use Rattle.dom_selectors.specs.Characters.{begins}
use Rattle.dom_selectors.specs.declared.syntax.Comparison.{Comparison}
use Rattle.dom_selectors.specs.declared.syntax.AttrOperator.{AttrOperator}
use Rattle.dom_selectors.specs.declared.syntax.AttrOperator.TheVariants.{Equals, Includes, DashMatch, Prefix, Suffix, Substring}
use Rattle.dom_nodes.specs.declared.case_sensitivity.CaseSensitivity.{CaseSensitivity}
use Rattle.dom_nodes.specs.declared.case_sensitivity.CaseSensitivity.TheVariants.{CaseSensitive, AsciiCaseInsensitive}

-- the bytes are equal; if case is ignored, ASCII letters are compared in lower case
abbrev pub same_byte : CaseSensitivity → ℕ → ℕ → Bool
same_byte CaseSensitive a b = nat_eq a b
same_byte AsciiCaseInsensitive a b = nat_eq (to_ascii_lowercase a) (to_ascii_lowercase b)

abbrev pub same_text : CaseSensitivity → List ℕ → List ℕ → Bool
same_text case [] [] = true
same_text case [] (b ∷ bs) = false
same_text case (a ∷ more) [] = false
same_text case (a ∷ more) (b ∷ bs) = same_byte case a b && same_text case more bs

abbrev pub begins_with : CaseSensitivity → List ℕ → List ℕ → Bool
begins_with case text [] = true
begins_with case [] (b ∷ bs) = false
begins_with case (a ∷ more) (b ∷ bs) = same_byte case a b && begins_with case more bs

-- the last bytes of the text, as many as `end` has, are `end`
abbrev pub ends_with : CaseSensitivity → List ℕ → List ℕ → Bool
ends_with case text end = same_text case (drop (length text - length end) text) end

abbrev pub has_within : CaseSensitivity → List ℕ → List ℕ → Bool
has_within case [] inner = begins_with case [] inner
has_within case (a ∷ more) inner = begins_with case (a ∷ more) inner || has_within case more inner

-- the text is one of the words
abbrev pub has_word : CaseSensitivity → List ℕ → List (List ℕ) → Bool
has_word case text words = list_any (λ word. same_text case word text) words

abbrev pub is_empty : List ℕ → Bool
is_empty [] = true
is_empty (b ∷ bs) = false

-- the text starts with the value and then `-`
abbrev pub begins_with_dash : CaseSensitivity → List ℕ → List ℕ → Bool
begins_with_dash case found value = begins_with case found value && begins (λ c. nat_eq c hyphen) (drop (length value) found)

-- The value of an attribute passes the operator. An empty value is never a prefix, suffix or substring, and an empty value or one
-- with whitespace is never a word.
abbrev pub compares : AttrOperator → CaseSensitivity → List ℕ → List ℕ → Bool
compares Equals case found value = same_text case found value
compares Includes case found value = has_word case value (words_of found)
compares DashMatch case found value = same_text case found value || begins_with_dash case found value
compares Prefix case found value = not (is_empty value) && begins_with case found value
compares Suffix case found value = not (is_empty value) && ends_with case found value
compares Substring case found value = not (is_empty value) && has_within case found value

abbrev pub passes : Comparison → List ℕ → Bool
passes comparison found = compares comparison.operator comparison.case_sensitivity found comparison.value
