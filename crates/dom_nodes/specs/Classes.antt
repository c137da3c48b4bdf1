-- Class values: lists of words in the value of the attribute `class`.
use Rattle.std.specs.Prelude.{ℕ, Bool, not, List, [], ◌∷◌, ◌++◌, codes, filter, map, if◌then◌else◌}
use Rattle.std.specs.Char.{is_whitespace, to_ascii_lowercase}
use Rattle.std.specs.List.{join_with_byte, list_all, list_any}
use Rattle.std.specs.Str.{bytes_eq, chars}
use Rattle.dom_nodes.specs.declared.name.Attr.{Attr}
use Rattle.dom_nodes.specs.declared.case_sensitivity.CaseSensitivity.{CaseSensitivity}
use Rattle.dom_nodes.specs.declared.case_sensitivity.CaseSensitivity.TheVariants.{CaseSensitive, AsciiCaseInsensitive}
use Rattle.dom_nodes.specs.Ascii.{space}
use Rattle.dom_nodes.specs.Changes.{with_attr, with_value}
use Rattle.dom_nodes.specs.Words.{class_words, is_among, words_of}

-- The words, with one space between any two.
abbrev pub words_joined : List (List ℕ) → List ℕ
words_joined words = join_with_byte space words

-- The text with one more word appended, after a space if the text isn't empty.
abbrev pub with_word : List ℕ → List ℕ → List ℕ
with_word [] word = word
with_word (c ∷ text) word = (c ∷ text) ++ space ∷ word

-- The words without repetitions: each word is kept at its first occurrence.
abbrev pub distinct : List (List ℕ) → List (List ℕ)
distinct [] = []
distinct (word ∷ words) = word ∷ filter (λ other. not (bytes_eq word other)) (distinct words)

-- The words that aren't among the others.
abbrev pub words_without : List (List ℕ) → List (List ℕ) → List (List ℕ)
words_without words others = filter (λ word. not (is_among word others)) words

-- The words, then each added word that isn't among them, at its first occurrence.
abbrev pub words_with : List (List ℕ) → List (List ℕ) → List (List ℕ)
words_with words added = words ++ words_without (distinct added) words

-- Whether the text is empty or has only white space characters.
abbrev pub is_blank : List ℕ → Bool
is_blank text = list_all is_whitespace (chars text)

-- The attributes after the words of the text were added to the first attribute `class`, or to a new
-- one at the end. A blank text changes nothing.
abbrev pub with_classes : List ℕ → List Attr → List Attr
with_classes text attrs =
    if is_blank text then attrs
    else with_attr (codes "class") (words_joined (words_with (class_words attrs) (words_of text))) attrs

-- The attributes after the words of the text were removed from the first attribute `class`. A blank
-- text changes nothing.
abbrev pub without_classes : List ℕ → List Attr → List Attr
without_classes text attrs =
    if is_blank text then attrs
    else with_value (codes "class") (words_joined (words_without (class_words attrs) (words_of text))) attrs

-- Whether two texts are equal, with or without the case of ASCII letters.
abbrev pub same_bytes : CaseSensitivity → List ℕ → List ℕ → Bool
same_bytes CaseSensitive a b = bytes_eq a b
same_bytes AsciiCaseInsensitive a b = bytes_eq (map to_ascii_lowercase a) (map to_ascii_lowercase b)

-- Whether one of the words is the name, with or without the case of ASCII letters.
abbrev pub is_among_by : CaseSensitivity → List ℕ → List (List ℕ) → Bool
is_among_by case name words = list_any (λ word. same_bytes case word name) words
