-- Markup in any of the ways in which a page may spell it, and the tokens for which it stands. Names are in any case, white space stands in
-- tags, values are in quotes of either kind, in none, or left out, characters are references or themselves. A character is its code point.
use Rattle.std.specs.Prelude.{ℕ, Bool, true, false, not, ◌==◌, ◌&&◌, ◌||◌, List, [], ◌∷◌, ◌++◌, map, flat_map, None, Some, bytes_eq}
use Rattle.std.specs.Prelude.{codes, if◌then◌else◌}
use Rattle.std.specs.Char.{to_ascii_lowercase}
use Rattle.std.specs.List.{list_all}
use Rattle.dom_markup.specs.Bytes.{is_letter}
use Rattle.calm_pages.specs.Calm.{is_bare}
use Rattle.standard_tokens.specs.Machine.{distinct}
use Rattle.standard_tokens.specs.PlainMarkup.{Piece, Itself, TextKind, Rcdata, character, is_name_char, written_piece}
use Rattle.standard_tokens.specs.Tokens.{Attr, Token, ADoctype, AStart}

-- ---- characters

-- tab, line feed, form feed and space
abbrev pub is_gap_char : ℕ → Bool
is_gap_char c = c == 9 || c == 10 || c == 12 || c == 32

-- what names are made of, in either case
abbrev pub is_spelled_char : ℕ → Bool
is_spelled_char c = is_name_char (to_ascii_lowercase c)

-- a name in lower case
abbrev pub lowered : List ℕ → List ℕ
lowered name = map to_ascii_lowercase name

abbrev pub is_spelled_name : List ℕ → Bool
is_spelled_name [] = false
is_spelled_name (c ∷ name) = is_spelled_char c && list_all is_spelled_char name

-- the name of a tag begins with a letter
abbrev pub is_spelled_tag_name : List ℕ → Bool
is_spelled_tag_name [] = false
is_spelled_tag_name (c ∷ name) = is_letter c && list_all is_spelled_char name

-- a `<` before this text is itself: neither a letter nor `!`, `/` or `?` follows it
abbrev pub is_lone : List ℕ → Bool
is_lone [] = false
is_lone (c ∷ rest) = not (is_letter c || c == 33 || c == 47 || c == 63)

-- ---- pieces, and what follows them

-- what is written as itself passes the test, before what follows it
abbrev pub is_piece : (ℕ → List ℕ → Bool) → Piece → List ℕ → Bool
is_piece test (Itself c) rest = test c rest
is_piece test _ rest = true

abbrev pub are_pieces : (ℕ → List ℕ → Bool) → List Piece → List ℕ → Bool
are_pieces test [] rest = true
are_pieces test (piece ∷ pieces) rest = is_piece test piece (flat_map written_piece pieces ++ rest) && are_pieces test pieces rest

-- what a text may contain as itself: any character but null and a carriage return, and `&` and `<` where they begin nothing else
abbrev pub is_text_at : ℕ → List ℕ → Bool
is_text_at c rest = if 38 == c then is_bare rest else if 60 == c then is_lone rest else not (0 == c || 13 == c)

-- ---- values

pub data Quoting : Type 0 where
  Double Single Unquoted : Quoting

-- what ends a value, so that it cannot stand in it as itself
abbrev pub ends_value : Quoting → ℕ → Bool
ends_value Double c = 34 == c
ends_value Single c = 39 == c
ends_value Unquoted c = 9 == c || 10 == c || 12 == c || 32 == c || 62 == c

-- what a value may contain as itself: any other character but null and a carriage return, and `&` where it begins no reference
abbrev pub is_value_at : Quoting → ℕ → List ℕ → Bool
is_value_at quoting c rest = not (0 == c || 13 == c || ends_value quoting c) && (if 38 == c then is_bare rest else true)

-- a value without quotes has a character, and does not begin with a quote
abbrev pub begins_unquoted : List Piece → Bool
begins_unquoted [] = false
begins_unquoted (Itself c ∷ pieces) = not (34 == c || 39 == c)
begins_unquoted (piece ∷ pieces) = true

-- white space or `>`
abbrev pub ends_unquoted : List ℕ → Bool
ends_unquoted [] = false
ends_unquoted (c ∷ rest) = ends_value Unquoted c

-- the value of an attribute: none, or `=`, with white space before and behind it, and a value
pub data SpelledValue : Type 0 where
  NoValue : SpelledValue
  Valued : List ℕ → List ℕ → Quoting → List Piece → SpelledValue

abbrev pub quoted : Quoting → List ℕ → List ℕ
quoted Double text = 34 ∷ (text ++ 34 ∷ [])
quoted Single text = 39 ∷ (text ++ 39 ∷ [])
quoted Unquoted text = text

abbrev pub written_value : SpelledValue → List ℕ
written_value NoValue = []
written_value (Valued before after quoting pieces) = before ++ (61 ∷ (after ++ quoted quoting (flat_map written_piece pieces)))

abbrev pub value_of : SpelledValue → List ℕ
value_of NoValue = []
value_of (Valued before after quoting pieces) = map character pieces

-- the value is well spelled before this text
abbrev pub is_quoted : Quoting → List Piece → List ℕ → Bool
is_quoted Double pieces rest = are_pieces (is_value_at Double) pieces (34 ∷ rest)
is_quoted Single pieces rest = are_pieces (is_value_at Single) pieces (39 ∷ rest)
is_quoted Unquoted pieces rest = begins_unquoted pieces && (ends_unquoted rest && are_pieces (is_value_at Unquoted) pieces rest)

abbrev pub is_spelled_value : SpelledValue → List ℕ → Bool
is_spelled_value NoValue rest = true
is_spelled_value (Valued before after quoting pieces) rest =
    list_all is_gap_char before && (list_all is_gap_char after && is_quoted quoting pieces rest)

-- ---- tags

-- white space, a name and a value
pub record SpelledAttr : Type 0 where
  pub gap : ℕ
  pub space : List ℕ
  pub name : List ℕ
  pub value : SpelledValue

abbrev pub written_attr : SpelledAttr → List ℕ
written_attr a = a.gap ∷ (a.space ++ (a.name ++ written_value a.value))

abbrev pub attr_of : SpelledAttr → Attr
attr_of a = record { name = lowered a.name; value = value_of a.value }

abbrev pub is_spelled_attr : SpelledAttr → List ℕ → Bool
is_spelled_attr a rest = (is_gap_char a.gap && list_all is_gap_char a.space) && (is_spelled_name a.name && is_spelled_value a.value rest)

-- attributes before this text
abbrev pub are_spelled_attrs : List SpelledAttr → List ℕ → Bool
are_spelled_attrs [] rest = true
are_spelled_attrs (a ∷ attrs) rest = is_spelled_attr a (flat_map written_attr attrs ++ rest) && are_spelled_attrs attrs rest

-- the end of a tag: `>` or `/>`, behind white space
abbrev pub closing : Bool → List ℕ
closing true = 47 ∷ 62 ∷ []
closing false = 62 ∷ []

-- a start tag: the flag says whether it ends with `/>`
pub record SpelledTag : Type 0 where
  pub name : List ℕ
  pub attrs : List SpelledAttr
  pub space : List ℕ
  pub slash : Bool

abbrev pub written_start : SpelledTag → List ℕ
written_start tag = 60 ∷ (tag.name ++ (flat_map written_attr tag.attrs ++ (tag.space ++ closing tag.slash)))

-- its name and its attributes in lower case, of attributes with one name the first
abbrev pub start_token : SpelledTag → Token
start_token tag = AStart (lowered tag.name) (distinct (map attr_of tag.attrs)) tag.slash

-- a start tag before this text
abbrev pub is_spelled_start : SpelledTag → List ℕ → Bool
is_spelled_start tag rest = is_spelled_tag_name tag.name
    && (list_all is_gap_char tag.space && are_spelled_attrs tag.attrs (tag.space ++ (closing tag.slash ++ rest)))

abbrev pub written_end : List ℕ → List ℕ → List ℕ
written_end name space = 60 ∷ 47 ∷ (name ++ (space ++ 62 ∷ []))

-- ---- doctypes

-- `<!`, the word in any case, white space, a name, and white space before the `>`
pub record SpelledDoctype : Type 0 where
  pub word : List ℕ
  pub gap : ℕ
  pub space : List ℕ
  pub name : List ℕ
  pub close : List ℕ

abbrev pub written_doctype : SpelledDoctype → List ℕ
written_doctype d = 60 ∷ 33 ∷ (d.word ++ (d.gap ∷ (d.space ++ (d.name ++ (d.close ++ 62 ∷ [])))))

abbrev pub is_spelled_doctype : SpelledDoctype → Bool
is_spelled_doctype d = bytes_eq (lowered d.word) (codes "doctype")
    && ((is_gap_char d.gap && list_all is_gap_char d.space) && (is_spelled_name d.name && list_all is_gap_char d.close))

abbrev pub doctype_token : SpelledDoctype → Token
doctype_token d = ADoctype (record { name = Some (lowered d.name); public_id = None; system_id = None; force_quirks = false })

-- ---- texts that are read in a state of their own

abbrev pub is_rcdata : TextKind → Bool
is_rcdata Rcdata = true
is_rcdata kind = false

-- a `<` before this text is itself: neither `/` nor `!` follows it
abbrev pub is_lone_in_own : List ℕ → Bool
is_lone_in_own [] = false
is_lone_in_own (c ∷ rest) = not (c == 33 || c == 47)

-- what such a text may contain as itself
abbrev pub is_own_at : TextKind → ℕ → List ℕ → Bool
is_own_at kind c rest = if 60 == c then is_lone_in_own rest
    else if 38 == c then (not (is_rcdata kind) || is_bare rest)
    else not (0 == c || 13 == c)

-- references stand in the text of a `title` or `textarea` alone
abbrev pub is_own_piece : TextKind → Piece → List ℕ → Bool
is_own_piece kind (Itself c) rest = is_own_at kind c rest
is_own_piece kind _ rest = is_rcdata kind

abbrev pub are_own : TextKind → List Piece → List ℕ → Bool
are_own kind [] rest = true
are_own kind (piece ∷ pieces) rest = is_own_piece kind piece (flat_map written_piece pieces ++ rest) && are_own kind pieces rest

-- the names of these elements are of letters alone
abbrev pub are_letters : List ℕ → Bool
are_letters [] = false
are_letters (c ∷ name) = is_letter c && list_all is_letter name
