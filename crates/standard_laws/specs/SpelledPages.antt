-- Pages of markup that is spelled in any way, and their tokens.
use Rattle.std.specs.Prelude.{◌≡◌, ℕ, Bool, true, not, ◌==◌, ◌&&◌, List, [], ◌∷◌, ◌++◌, map, flat_map, false, None, Some, bytes_eq, codes}
use Rattle.std.specs.List.{list_all}
use Rattle.standard_tokens.specs.Machine.{Machine, at_state}
use Rattle.standard_tokens.specs.PlainMarkup.{Piece, TextKind, character, is_comment_text, state_of, written_piece}
use Rattle.standard_tokens.specs.PlainMarkup.{CommentItem, written as written_plain}
use Rattle.standard_tokens.specs.Reading.{Feedback, IsFeedback, Reads, ReadsPage, plain_feedback, reader}
use Rattle.standard_tokens.specs.States.{Data}
use Rattle.standard_tokens.specs.Tokens.{Attr, Token, AChar, AComment, ADoctype, AStart, AnEnd, AnEof}
use Rattle.standard_laws.specs.SpelledMarkup.{SpelledDoctype, SpelledTag, are_letters, are_own, are_pieces, doctype_token, is_gap_char}
use Rattle.standard_laws.specs.SpelledMarkup.{is_spelled_doctype, is_spelled_start, is_spelled_tag_name, is_text_at, lowered, start_token}
use Rattle.standard_laws.specs.SpelledMarkup.{written_doctype, written_end, written_start}

-- a text, a tag, a comment, a doctype, or an element whose text is read in a state of its own, with that text, and with the name and the
-- white space of its end tag
pub data SpelledItem : Type 0 where
  TextOf : List Piece → SpelledItem
  StartOf : SpelledTag → SpelledItem
  EndOf : List ℕ → List ℕ → SpelledItem
  CommentOf : List ℕ → SpelledItem
  DoctypeOf : SpelledDoctype → SpelledItem
  OwnOf : TextKind → SpelledTag → List Piece → List ℕ → List ℕ → SpelledItem

abbrev pub written : SpelledItem → List ℕ
written (TextOf pieces) = flat_map written_piece pieces
written (StartOf tag) = written_start tag
written (EndOf name space) = written_end name space
written (CommentOf text) = written_plain (CommentItem text)
written (DoctypeOf d) = written_doctype d
written (OwnOf kind tag pieces name space) = written_start tag ++ (flat_map written_piece pieces ++ written_end name space)

-- the tokens for which it stands
abbrev pub tokens : SpelledItem → List Token
tokens (TextOf pieces) = map AChar (map character pieces)
tokens (StartOf tag) = start_token tag ∷ []
tokens (EndOf name space) = AnEnd (lowered name) ∷ []
tokens (CommentOf text) = AComment text ∷ []
tokens (DoctypeOf d) = doctype_token d ∷ []
tokens (OwnOf kind tag pieces name space) = start_token tag ∷ (map AChar (map character pieces) ++ AnEnd (lowered name) ∷ [])

-- it is well spelled before this text
abbrev pub is_spelled : SpelledItem → List ℕ → Bool
is_spelled (TextOf pieces) rest = are_pieces is_text_at pieces rest
is_spelled (StartOf tag) rest = is_spelled_start tag rest
is_spelled (EndOf name space) rest = is_spelled_tag_name name && list_all is_gap_char space
is_spelled (CommentOf text) rest = is_comment_text text
is_spelled (DoctypeOf d) rest = is_spelled_doctype d
is_spelled (OwnOf kind tag pieces name space) rest =
    is_spelled_start tag (flat_map written_piece pieces ++ (written_end name space ++ rest))
    && ((bytes_eq (lowered name) (lowered tag.name) && are_letters name)
    && (list_all is_gap_char space && are_own kind pieces (written_end name space ++ rest)))

abbrev pub are_spelled : List SpelledItem → List ℕ → Bool
are_spelled [] rest = true
are_spelled (item ∷ items) rest = is_spelled item (flat_map written items ++ rest) && are_spelled items rest

-- behind a start tag the tokenizer stays in the data state, or is switched to the state of the element's text
abbrev pub IsAnswered : Feedback → List Token → SpelledItem → Type 0
IsAnswered f seen (StartOf tag) = f.switch (seen ++ start_token tag ∷ []) ≡ None
IsAnswered f seen (OwnOf kind tag pieces name space) = f.switch (seen ++ start_token tag ∷ []) ≡ Some (state_of kind)
IsAnswered f seen _ = Unit {0}

abbrev pub AreAnswered : Feedback → List Token → List SpelledItem → Type 0
AreAnswered f seen [] = Unit {0}
AreAnswered f seen (item ∷ items) = IsAnswered f seen item × AreAnswered f (seen ++ tokens item) items

-- ---- laws

-- Items are read as their tokens wherever they are in a page, from the data state to the data state.
abbrev pub SpelledItemsAreRead : Type 0
SpelledItemsAreRead = (f : Feedback) → IsFeedback f → (seen : List Token) (items : List SpelledItem) (rest : List ℕ) →
    are_spelled items rest ≡ true → AreAnswered f seen items → (before : Machine) →
    (behind : Machine) × Reads f (reader (at_state before Data) (flat_map written items ++ rest) seen)
    (reader (at_state behind Data) rest (seen ++ flat_map tokens items))

-- what begins a new line is a line feed
abbrev pub has_no_return : List ℕ → Bool
has_no_return text = list_all (λ c. not (c == 13)) text

-- a page of such items is read as their tokens
abbrev pub SpelledPagesAreRead : Type 0
SpelledPagesAreRead = (f : Feedback) → IsFeedback f → (items : List SpelledItem) → are_spelled items [] ≡ true → AreAnswered f [] items →
    has_no_return (flat_map written items) ≡ true → ReadsPage f (flat_map written items) (flat_map tokens items ++ AnEof ∷ [])

-- and as no others
abbrev pub SpelledPagesAreReadOneWay : Type 0
SpelledPagesAreReadOneWay = (f : Feedback) → IsFeedback f → (items : List SpelledItem) → are_spelled items [] ≡ true →
    AreAnswered f [] items → has_no_return (flat_map written items) ≡ true →
    (found : List Token) → ReadsPage f (flat_map written items) found → found ≡ flat_map tokens items ++ AnEof ∷ []

-- ---- an example

-- names in upper case, white space in tags, values in single quotes, in none and left out, and characters as themselves
abbrev pub SpelledExampleIsRead : Type 0
SpelledExampleIsRead =
    ReadsPage (plain_feedback false) (codes "<!DocType  HTML ><P Class = 'a&amp;b' ID=x& hidden>1 < 2 & 3<BR/></p >")
    (ADoctype (record { name = Some (codes "html"); public_id = None; system_id = None; force_quirks = false })
    ∷ AStart (codes "p") example_attrs false
    ∷ (map AChar (codes "1 < 2 & 3") ++ AStart (codes "br") [] true ∷ AnEnd (codes "p") ∷ AnEof ∷ []))
  where
    example_attrs : List Attr
    example_attrs = record { name = codes "class"; value = codes "a&b" } ∷ record { name = codes "id"; value = codes "x&" }
        ∷ record { name = codes "hidden"; value = [] } ∷ []
