-- The words of the lists in a class or an id. The lists are the table WORDS of the code.
use Rattle.std.specs.Prelude.{ℕ, ◌+◌, ◌-◌, ◌*◌, ◌≡◌, ◌<◌, ◌≤◌, ◌==◌, ◌&&◌, ◌||◌, not, nat_lt, Bool, true, false, List, [], ◌∷◌, codes, drop}
use Rattle.std.specs.Prelude.{get_or, length, map, slice_set, take, if◌then◌else◌}
use Rattle.std.specs.Char.{to_ascii_lowercase}
use Rattle.std.specs.List.{list_any, prefix_len}
use Rattle.std.specs.Str.{bytes_eq}
use Rattle.dom_article.specs.Texts.{is_from_to}
use Rattle.dom_article.specs.declared.tables.List.{List as WordList}
use Rattle.dom_article.specs.declared.tables.List.TheVariants.{Byline, Maybe, Negative, Positive, Strong, Unlikely}
use Rattle.dom_article.specs.declared.tables.TheConstants.{CONTENT_LOOKS, TEXT_LOOKS, WORDS}
use Rattle.dom_article.specs.declared.tables.Way.{Way}
use Rattle.dom_article.specs.declared.tables.Way.TheVariants.{Part, Whole}
use Rattle.dom_article.specs.declared.words.Found.{Found}
use Rattle.dom_article.specs.declared.words.Words.{Words}

-- ---- letters

abbrev pub is_small : ℕ → Bool
is_small c = is_from_to 97 122 c

abbrev pub is_capital : ℕ → Bool
is_capital c = is_from_to 65 90 c

abbrev pub is_letter_or_digit : ℕ → Bool
is_letter_or_digit c = is_small c || is_from_to 48 57 c

-- A text in lower case, with a hyphen between each small letter and a capital behind it.
abbrev pub lowered : (after_small : Bool) → List ℕ → List ℕ
lowered after_small [] = []
lowered after_small (c ∷ cs) =
    if is_capital c && after_small
    then 45 ∷ to_ascii_lowercase c ∷ lowered (is_small c) cs
    else to_ascii_lowercase c ∷ lowered (is_small c) cs

abbrev pub has_capital : List ℕ → Bool
has_capital text = list_any is_capital text

-- ---- words

-- Whether a text begins with a word.
abbrev pub begins : (word text : List ℕ) → Bool
begins word text = bytes_eq (take (length word) text) word

-- Whether no letter and no digit is at the start.
abbrev pub ends_word : List ℕ → Bool
ends_word [] = true
ends_word (c ∷ cs) = not (is_letter_or_digit c)

abbrev pub is_whole : Way → Bool
is_whole Whole = true
is_whole Part = false

-- Whether a text begins with the word. One that counts as a whole word alone isn't followed by a letter or a digit, and none is
-- before it.
abbrev pub is_here : (word : List ℕ) → Way → (text : List ℕ) → (first : Bool) → Bool
is_here word way text first =
    (not (is_whole way) || first) && begins word text && (not (is_whole way) || ends_word (drop (length word) text))

abbrev pub no_words : Found
no_words = record { unlikely = false; maybe = false; strong = false; positive = false; negative = false; byline = false }

-- With a word of that list.
abbrev pub with_list : WordList → Found → Found
with_list Unlikely found = record found { unlikely = true }
with_list Maybe found = record found { maybe = true }
with_list Strong found = record found { strong = true }
with_list Positive found = record found { positive = true }
with_list Negative found = record found { negative = true }
with_list Byline found = record found { byline = true }

-- A word of the table: its text, how it counts, and its list.
abbrev pub Entry : Type 0
Entry = List ℕ × Way × WordList

-- The table.
unfoldable pub table : List Entry
table = map (λ e. (e.0.now, e.1, e.2)) WORDS

-- With that list, if the text begins with the word.
abbrev pub with_word : Entry → (text : List ℕ) → (first : Bool) → Found → Found
with_word (word, way, list) text first found = if is_here word way text first then with_list list found else found

-- With these words, those that the text begins with.
abbrev pub with_words : List (Entry) → (text : List ℕ) → (first : Bool) → Found → Found
with_words [] text first found = found
with_words (word ∷ words) text first found = with_words words text first (with_word word text first found)

-- ---- classes that say how something looks

-- Whether a text begins with the word, and that ends there.
abbrev pub is_look : (look text : List ℕ) → Bool
is_look look text = begins look text && ends_word (drop (length look) text)

abbrev pub is_in_class : ℕ → Bool
is_in_class c = (c == 45) || (c == 95) || is_capital c || is_letter_or_digit c

-- The length of the class that a text begins with.
abbrev pub class_length : List ℕ → ℕ
class_length text = prefix_len is_in_class text

-- Whether a text begins with one of the words, and that ends there.
abbrev pub has_look : (looks : List (List ℕ)) → (text : List ℕ) → (other : Bool) → Bool
has_look [] text other = other
has_look (look ∷ looks) text other = has_look looks text (if is_look look text then true else other)

-- That length, if a text begins with one of the words.
abbrev pub length_to : (text rest : List ℕ) → (looks : List (List ℕ)) → ℕ
length_to text rest looks = if has_look looks rest false then class_length text else 0

abbrev pub without_justify : List ℕ → List ℕ
without_justify text = if begins (codes "justify-") text then drop 8 text else text

-- Whether a text begins with the first letter of a class that says how something looks.
abbrev pub may_be_look : List ℕ → Bool
may_be_look [] = false
may_be_look (c ∷ cs) = (c == 116) || (c == 99) || (c == 106)

-- The length of a class such as `text-center`, `content-between` or `justify-content-between` at the start, or 0.
abbrev pub look_length : List ℕ → ℕ
look_length text =
    if begins (codes "text-") text then length_to text (drop 5 text) (map (λ look. look.now) TEXT_LOOKS)
    else if begins (codes "content-") (without_justify text)
    then length_to text (drop 8 (without_justify text)) (map (λ look. look.now) CONTENT_LOOKS)
    else 0

abbrev pub look_at : (first : Bool) → List ℕ → ℕ
look_at first text = if first then look_length text else 0

-- ---- the search

-- How many characters behind the first one are skipped: those of such a class.
abbrev pub skip_after : (first : Bool) (skip : ℕ) → List ℕ → ℕ
skip_after first skip text = if nat_lt 0 skip then skip - 1 else if ends_word text then 0 else look_at first text - 1

-- With the words at the start of a text, unless that is skipped.
abbrev pub found_after : (first : Bool) (skip : ℕ) → List ℕ → Found → Found
found_after first skip text found =
    if nat_lt 0 skip || ends_word text || nat_lt 0 (look_at first text) then found else with_words table text first found

-- With the words in a text.
abbrev pub scan : (first : Bool) (skip : ℕ) → List ℕ → Found → Found
scan first skip [] found = found
scan first skip (c ∷ cs) found =
    scan (not (is_letter_or_digit c)) (skip_after first skip (c ∷ cs)) cs (found_after first skip (c ∷ cs) found)

-- The words in a text. Letters are compared in lower case, and a word ends between a small letter and a capital.
abbrev pub words_in : List ℕ → Found
words_in text = scan true 0 (lowered false text) no_words

-- ---- the index of the table

-- The number of a small letter: 1 for `a`; 0 for what is none.
abbrev pub letter_number : ℕ → ℕ
letter_number c = if is_small c then c - 96 else 0

-- The number of the first two letters of a text.
abbrev pub pair_of : List ℕ → ℕ
pair_of [] = 0
pair_of (c ∷ []) = letter_number c * 27
pair_of (c ∷ (d ∷ cs)) = letter_number c * 27 + letter_number d

abbrev pub pair_at : Entry → ℕ
pair_at (word, way, list) = pair_of word

-- The first words of a table, so many, are between the places that the index has for their first two letters.
pub record IsIndexTo (pairs : List ℕ) (count : ℕ) (starts ends : List ℕ) : Type 0 where
  pub all_starts : length starts ≡ 729
  pub all_ends : length ends ≡ 729
  pub first : (pair : ℕ) → get_or starts pair 0 ≤ count
  pub last : (pair : ℕ) → get_or ends pair 0 ≤ count
  pub each : (at pair : ℕ) → at < count → get_or pairs at 0 ≡ pair → (get_or starts pair 0 ≤ at) × (at < get_or ends pair 0)

abbrev pub IsIndex : Words → Type 0
IsIndex words = IsIndexTo (map pair_at table) 118 words.starts.items words.ends.items

-- With this place as the first one of the words with these first two letters, if there is none yet.
abbrev pub with_start : (pair at : ℕ) (starts ends : List ℕ) → List ℕ
with_start pair at starts ends = if get_or ends pair 0 == 0 then slice_set starts pair at else starts

-- These words of the table are all of its words that the text begins with.
abbrev pub AreEnough : (text : List ℕ) → List (Entry) → Type 0
AreEnough text words = (first : Bool) (found : Found) → with_words words text first found ≡ with_words table text first found
