-- Plain markup, as a careful writer writes it, and the tokens that it represents. A character is its code point.
use Rattle.std.specs.Prelude.{◌≡◌, ℕ, Bool, true, false, not, eqb, ◌==◌, ◌&&◌, ◌||◌, nat_le, List, [], ◌∷◌, ◌++◌, map, flat_map, None, Some}
use Rattle.std.specs.Prelude.{codes}
use Rattle.std.specs.Char.{is_ascii_lowercase}
use Rattle.std.specs.List.{list_all}
use Rattle.standard_tokens.specs.Machine.{distinct, same_case_less}
use Rattle.standard_tokens.specs.Reading.{Feedback}
use Rattle.standard_tokens.specs.States.{State, RCDATA, RAWTEXT, ScriptData}
use Rattle.standard_tokens.specs.Tokens.{Attr, Token, AChar, AComment, ADoctype, AStart, AnEnd}

-- ---- texts and values

-- a character of a text or of a value, as itself or as a reference
pub data Piece : Type 0 where
  Itself : ℕ → Piece
  Amp Lt Gt Quot Nbsp : Piece

abbrev pub character : Piece → ℕ
character (Itself c) = c
character Amp = 38
character Lt = 60
character Gt = 62
character Quot = 34
character Nbsp = 160

abbrev pub written_piece : Piece → List ℕ
written_piece (Itself c) = c ∷ []
written_piece Amp = codes "&amp;"
written_piece Lt = codes "&lt;"
written_piece Gt = codes "&gt;"
written_piece Quot = codes "&quot;"
written_piece Nbsp = codes "&nbsp;"

-- what is written as itself passes the test
abbrev pub is_plain_piece : (ℕ → Bool) → Piece → Bool
is_plain_piece test (Itself c) = test c
is_plain_piece test Amp = true
is_plain_piece test Lt = true
is_plain_piece test Gt = true
is_plain_piece test Quot = true
is_plain_piece test Nbsp = true

-- what a text may contain as itself: any character but `&`, `<`, null and a carriage return
abbrev pub is_text_char : ℕ → Bool
is_text_char c = not (0 == c || 13 == c || 38 == c || 60 == c)

-- what a value in double quotes may contain as itself: any character but `"`, `&`, null and a carriage return
abbrev pub is_value_char : ℕ → Bool
is_value_char c = not (0 == c || 13 == c || 34 == c || 38 == c)

-- the same with `<`
abbrev pub is_text_or_less : ℕ → Bool
is_text_or_less c = not (0 == c || 13 == c || 38 == c)

-- what a raw text or a comment may contain: any character but null and a carriage return
abbrev pub is_raw_char : ℕ → Bool
is_raw_char c = not (0 == c || 13 == c)

-- ---- names

-- what names are made of: any character but white space, null, `"`, `'`, `/`, `<`, `=`, `>` and A to Z
abbrev pub is_name_char : ℕ → Bool
is_name_char c =
    not
    (0 == c || 9 == c || 10 == c || 12 == c || 13 == c || 32 == c || 34 == c || 39 == c || 47 == c || 60 == c || 61 == c || 62 == c
    || (nat_le 65 c && nat_le c 90))

abbrev pub is_name : List ℕ → Bool
is_name [] = false
is_name (c ∷ name) = is_name_char c && list_all is_name_char name

-- the name of a tag begins with a letter
abbrev pub is_tag_name : List ℕ → Bool
is_tag_name [] = false
is_tag_name (c ∷ name) = is_ascii_lowercase c && list_all is_name_char name

-- a name of letters alone, as have all elements whose text is read in a state of its own
abbrev pub is_letter_name : List ℕ → Bool
is_letter_name [] = false
is_letter_name (c ∷ name) = is_ascii_lowercase c && list_all is_ascii_lowercase name

-- ---- what a text contains

-- the text begins with the word
abbrev pub begins_with : (ℕ → ℕ → Bool) → List ℕ → List ℕ → Bool
begins_with same [] text = true
begins_with same (w ∷ word) [] = false
begins_with same (w ∷ word) (c ∷ text) = same w c && begins_with same word text

-- the text contains the word
abbrev pub contains_word : (ℕ → ℕ → Bool) → List ℕ → List ℕ → Bool
contains_word same word [] = begins_with same word []
contains_word same word (c ∷ text) = begins_with same word (c ∷ text) || contains_word same word text

-- no comment ends in it: it does not begin with `>` or `->`, and does not contain `-->` or `--!>`
abbrev pub is_comment_text : List ℕ → Bool
is_comment_text text = list_all is_raw_char text
    && not
    (begins_with eqb (codes ">") text || begins_with eqb (codes "->") text || contains_word eqb (codes "-->") text
    || contains_word eqb (codes "--!>") text)

-- how the text of an element is read that has a state of its own: with references, as it is, or as a script
pub data TextKind : Type 0 where
  Rcdata Rawtext Script : TextKind

-- what such a text may contain as itself
abbrev pub is_own_char : TextKind → ℕ → Bool
is_own_char Rcdata = is_text_or_less
is_own_char kind = is_raw_char

abbrev pub state_of : TextKind → State
state_of Rcdata = RCDATA
state_of Rawtext = RAWTEXT
state_of Script = ScriptData

-- it does not contain `</NAME`, in any case, and as a script it does not contain `<!--`
abbrev pub lacks_end : TextKind → List ℕ → List ℕ → Bool
lacks_end Script name text = not (contains_word same_case_less (codes "</" ++ name) text || contains_word eqb (codes "<!--") text)
lacks_end _ name text = not (contains_word same_case_less (codes "</" ++ name) text)

-- ---- items

pub record PlainAttr : Type 0 where
  pub name : List ℕ
  pub value : List Piece

pub data Item : Type 0 where
  CharItem : Piece → Item
  StartTag : List ℕ → List PlainAttr → Item
  EndTag : List ℕ → Item
  CommentItem : List ℕ → Item
  DoctypeItem : List ℕ → Item
  TextElement : List ℕ → List PlainAttr → List Piece → Item  -- a `title` or `textarea`, with its end tag
  RawElement : TextKind → List ℕ → List PlainAttr → List ℕ → Item  -- the same without references: a `style` or `script` or the like

-- ` name="value"`
abbrev pub written_attr : PlainAttr → List ℕ
written_attr a = 32 ∷ (a.name ++ 61 ∷ 34 ∷ (flat_map written_piece a.value ++ 34 ∷ []))

abbrev pub written_start : List ℕ → List PlainAttr → List ℕ
written_start name attrs = 60 ∷ (name ++ (flat_map written_attr attrs ++ 62 ∷ []))

abbrev pub written_end : List ℕ → List ℕ
written_end name = 60 ∷ 47 ∷ (name ++ 62 ∷ [])

-- the text of the item
abbrev pub written : Item → List ℕ
written (CharItem piece) = written_piece piece
written (StartTag name attrs) = written_start name attrs
written (EndTag name) = written_end name
written (CommentItem text) = codes "<!--" ++ (text ++ codes "-->")
written (DoctypeItem name) = codes "<!DOCTYPE " ++ (name ++ codes ">")
written (TextElement name attrs text) = written_start name attrs ++ (flat_map written_piece text ++ written_end name)
written (RawElement kind name attrs text) = written_start name attrs ++ (text ++ written_end name)

abbrev pub attr_of : PlainAttr → Attr
attr_of a = record { name = a.name; value = map character a.value }

-- of attributes with one name the first is kept
abbrev pub start_token : List ℕ → List PlainAttr → Token
start_token name attrs = AStart name (distinct (map attr_of attrs)) false

-- the tokens that it represents
abbrev pub tokens : Item → List Token
tokens (CharItem piece) = AChar (character piece) ∷ []
tokens (StartTag name attrs) = start_token name attrs ∷ []
tokens (EndTag name) = AnEnd name ∷ []
tokens (CommentItem text) = AComment text ∷ []
tokens (DoctypeItem name) = ADoctype (record { name = Some name; public_id = None; system_id = None; force_quirks = false }) ∷ []
tokens (TextElement name attrs text) = start_token name attrs ∷ (map AChar (map character text) ++ AnEnd name ∷ [])
tokens (RawElement kind name attrs text) = start_token name attrs ∷ (map AChar text ++ AnEnd name ∷ [])

abbrev pub is_plain_attr : PlainAttr → Bool
is_plain_attr a = is_name a.name && list_all (is_plain_piece is_value_char) a.value

abbrev pub is_plain_item : Item → Bool
is_plain_item (CharItem piece) = is_plain_piece is_text_char piece
is_plain_item (StartTag name attrs) = is_tag_name name && list_all is_plain_attr attrs
is_plain_item (EndTag name) = is_tag_name name
is_plain_item (CommentItem text) = is_comment_text text
is_plain_item (DoctypeItem name) = is_name name
is_plain_item (TextElement name attrs text) = is_letter_name name
    && (list_all is_plain_attr attrs && list_all (is_plain_piece is_text_char) text)
is_plain_item (RawElement kind name attrs text) = is_letter_name name
    && (list_all is_plain_attr attrs && (list_all (is_own_char kind) text && lacks_end kind name text))

-- ---- what tree construction answers

-- the tokenizer stays in the data state behind a start tag, or is switched to the state of the element's text
abbrev pub IsAnswered : Feedback → List Token → Item → Type 0
IsAnswered f seen (StartTag name attrs) = f.switch (seen ++ start_token name attrs ∷ []) ≡ None
IsAnswered f seen (TextElement name attrs text) = f.switch (seen ++ start_token name attrs ∷ []) ≡ Some RCDATA
IsAnswered f seen (RawElement kind name attrs text) = f.switch (seen ++ start_token name attrs ∷ []) ≡ Some (state_of kind)
IsAnswered f seen _ = Unit {0}

-- so it is at each item, behind these tokens
abbrev pub AreAnswered : Feedback → List Token → List Item → Type 0
AreAnswered f seen [] = Unit {0}
AreAnswered f seen (item ∷ items) = IsAnswered f seen item × AreAnswered f (seen ++ tokens item) items
