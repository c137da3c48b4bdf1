-- What the laws say of markup that is spelled in any way.
use Rattle.std.specs.Prelude.{◌≡◌, ℕ, true, List, [], ◌∷◌, ◌++◌, map, flat_map, Option, Some}
use Rattle.std.specs.List.{list_all}
use Rattle.standard_tokens.specs.Laws.{IsReadAnywhere}
use Rattle.standard_tokens.specs.Machine.{Machine, at_state}
use Rattle.standard_tokens.specs.PlainMarkup.{Piece, TextKind, character, state_of, written_piece}
use Rattle.standard_tokens.specs.Reading.{Feedback, IsFeedback, Reads, reader, switched}
use Rattle.standard_tokens.specs.States.{State, Data}
use Rattle.standard_tokens.specs.Tokens.{Token, AChar, AnEnd}
use Rattle.standard_laws.specs.SpelledMarkup.{SpelledDoctype, are_letters, are_own, doctype_token, is_spelled_doctype, written_doctype}
use Rattle.standard_laws.specs.SpelledMarkup.{SpelledTag, are_pieces, is_gap_char, is_spelled_start, is_spelled_tag_name, is_text_at}
use Rattle.standard_laws.specs.SpelledMarkup.{lowered, start_token, written_end, written_start}

-- the machine behind a start tag of this name, with tree construction's answer to it
abbrev pub behind_start : Machine → Option State → List ℕ → Machine
behind_start m answer name = switched answer (record m { state = Data; last_start = Some name })

-- A start tag is read as its token, wherever it is in a page. Behind it the tokenizer is in the state to which tree construction switches
-- it.
abbrev pub SpelledStartsAreRead : Type 0
SpelledStartsAreRead = (f : Feedback) (seen : List Token) (tag : SpelledTag) (rest : List ℕ) (answer : Option State) →
    is_spelled_start tag rest ≡ true → f.switch (seen ++ start_token tag ∷ []) ≡ answer → (before : Machine) →
    (behind : Machine) × Reads f (reader (at_state before Data) (written_start tag ++ rest) seen)
    (reader (behind_start behind answer (lowered tag.name)) rest (seen ++ start_token tag ∷ []))

-- an end tag is read as the end tag of its name in lower case, wherever it is in a page and whatever follows it
abbrev pub SpelledEndsAreRead : Type 0
SpelledEndsAreRead = (f : Feedback) → IsFeedback f → (seen : List Token) (name space : List ℕ) → is_spelled_tag_name name ≡ true →
    list_all is_gap_char space ≡ true → IsReadAnywhere f seen (written_end name space) (AnEnd (lowered name) ∷ [])

-- a text is read as the characters for which it stands, from the data state to the data state
abbrev pub SpelledTextsAreRead : Type 0
SpelledTextsAreRead = (f : Feedback) → IsFeedback f → (seen : List Token) (pieces : List Piece) (rest : List ℕ) →
    are_pieces is_text_at pieces rest ≡ true → (before : Machine) →
    (behind : Machine) × Reads f (reader (at_state before Data) (flat_map written_piece pieces ++ rest) seen)
    (reader (at_state behind Data) rest (seen ++ map AChar (map character pieces)))

-- a doctype is read as the doctype of its name in lower case, with no identifiers
abbrev pub SpelledDoctypesAreRead : Type 0
SpelledDoctypesAreRead = (f : Feedback) → IsFeedback f → (seen : List Token) (d : SpelledDoctype) → is_spelled_doctype d ≡ true →
    IsReadAnywhere f seen (written_doctype d) (doctype_token d ∷ [])

-- Behind a start tag whose name is of letters, in the state of the element's text, that text and its end tag are read as the characters
-- and the end tag.
abbrev pub SpelledOwnTextsAreRead : Type 0
SpelledOwnTextsAreRead =
    (f : Feedback) → IsFeedback f → (seen : List Token) (kind : TextKind) (pieces : List Piece) (name space rest : List ℕ) →
    are_own kind pieces (written_end name space ++ rest) ≡ true → are_letters name ≡ true → list_all is_gap_char space ≡ true →
    (before : Machine) →
    (behind : Machine) × Reads f
    (reader (behind_start before (Some (state_of kind)) (lowered name)) (flat_map written_piece pieces ++ (written_end name space ++ rest))
    seen)
    (reader (at_state behind Data) rest (seen ++ (map AChar (map character pieces) ++ AnEnd (lowered name) ∷ [])))
