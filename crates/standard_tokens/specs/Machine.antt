-- The tokenizer (13.2.5): a machine, and what it does at the front of the text that is left. A character is its code point.
use Rattle.std.specs.Prelude.{ℕ, eqb, ◌+◌, ◌-◌, ◌*◌, Bool, true, false, not, cond, ◌&&◌, ◌||◌, ◌==◌, nat_le, nat_lt, List, [], ◌∷◌, ◌++◌}
use Rattle.std.specs.Prelude.{map, reverse, length, take, drop, Option, None, Some, unwrap_or, bytes_eq, codes, find, option_map}
use Rattle.std.specs.Option.{option_map_or}
use Rattle.std.specs.Char.{to_ascii_lowercase, is_ascii_alphanumeric, char_set_contains}
use Rattle.std.specs.List.{list_any, starts_with}
use Rattle.standard_tokens.specs.Entries.{Mark, OneOf, Range, End, On, Next, Word, AnyCase, Name, Else, Guard, Always, Appropriate}
use Rattle.standard_tokens.specs.Entries.{IsScript, InForeign, InAttribute, Historical, What, Current, Lower, TheBuffer, These, Place}
use Rattle.standard_tokens.specs.Entries.{TheTagName, AttrName, AttrValue, Comment, DoctypeName, PublicId, SystemId, Buffer, TagKind}
use Rattle.standard_tokens.specs.Entries.{Starting, Ending, Act, Emit, EmitTag, EmitComment, EmitDoctype, EmitEndOfFile, NewTag, NewAttr}
use Rattle.standard_tokens.specs.Entries.{NewComment, NewDoctype, SelfClosing, ForceQuirks, Add, SetEmpty, ReturnTo, CodeZero, CodeDigit}
use Rattle.standard_tokens.specs.Entries.{BufferNumber, BufferName, Flush, Then, Stay, Switch, Reconsume, SwitchBack, ReconsumeBack, Stop}
use Rattle.standard_tokens.specs.Entries.{Entry, entry}
use Rattle.standard_tokens.specs.NamedReferences.{NamedReference, named_references}
use Rattle.standard_tokens.specs.Numbers.{character_of}
use Rattle.standard_tokens.specs.States.{State, Data, AttributeValueDoubleQuoted, AttributeValueSingleQuoted, AttributeValueUnquoted}
use Rattle.standard_tokens.specs.Table.{entries}
use Rattle.standard_tokens.specs.Tokens.{Attr, Doctype, Token, AChar, AComment, ADoctype, AStart, AnEnd, AnEof}

pub record Tag : Type 0 where
  pub kind : TagKind
  pub name : List ℕ
  pub attrs : List Attr
  pub self_closing : Bool

pub record Machine : Type 0 where
  pub state : State
  pub return_state : State
  pub tag : Tag  -- the current tag; its attributes from the last to the first
  pub comment : List ℕ
  pub doctype : Doctype
  pub buffer : List ℕ  -- the temporary buffer
  pub last_start : Option (List ℕ)  -- the name of the last start tag that was emitted
  pub code : ℕ  -- the character reference code

-- ---- named character references

abbrev pub longer_of : Bool → NamedReference → Option NamedReference → Option NamedReference
longer_of false one other = other
longer_of true one None = Some one
longer_of true one (Some other) = cond (nat_lt (length one.name) (length other.name)) (Some other) (Some one)

-- of those whose name begins the text, the one with the longest name
abbrev pub longest_among : List NamedReference → List ℕ → Option NamedReference
longest_among [] text = None
longest_among (one ∷ others) text = longer_of (starts_with eqb text one.name) one (longest_among others text)

-- the longest name of a named character reference that begins the text
unfoldable pub longest_name : List ℕ → Option (List ℕ)
unfolding named_references
longest_name text = option_map (λ one. one.name) (longest_among named_references text)

-- the characters of a name
unfoldable pub value_of : List ℕ → List ℕ
unfolding named_references
value_of name = option_map_or (λ one. one.characters) (find (λ one. bytes_eq one.name name) named_references) []

-- 13.2.3.5: CR LF, and CR alone, are LF. The flag says whether a CR comes just before.
abbrev pub normalized_behind : Bool → List ℕ → List ℕ
normalized_behind behind [] = []
normalized_behind behind (c ∷ text) =
    cond (c == 13) (10 ∷ normalized_behind true text)
    (cond (behind && c == 10) (normalized_behind false text) (c ∷ normalized_behind false text))

abbrev pub normalized : List ℕ → List ℕ
normalized text = normalized_behind false text

-- ---- when an entry is taken

abbrev pub fits_mark : Mark → List ℕ → Bool
fits_mark (OneOf cs) [] = false
fits_mark (OneOf cs) (c ∷ text) = char_set_contains cs c
fits_mark (Range low high) [] = false
fits_mark (Range low high) (c ∷ text) = nat_le low c && nat_le c high
fits_mark End [] = true
fits_mark End (c ∷ text) = false

abbrev pub same_case_less : ℕ → ℕ → Bool
same_case_less c d = to_ascii_lowercase c == to_ascii_lowercase d

-- what is consumed if the entry is taken
abbrev pub consumed : On → List ℕ → Option (List ℕ)
consumed (Next marks) text = cond (list_any (λ mark. fits_mark mark text) marks) (Some (take 1 text)) None
consumed (Word word) text = cond (starts_with eqb text word) (Some (take (length word) text)) None
consumed (AnyCase word) text = cond (starts_with same_case_less text word) (Some (take (length word) text)) None
consumed Name text = longest_name text
consumed Else text = Some (take 1 text)

-- the return state is one of an attribute's value
abbrev pub is_value : State → Bool
is_value AttributeValueDoubleQuoted = true
is_value AttributeValueSingleQuoted = true
is_value AttributeValueUnquoted = true
is_value _ = false

abbrev pub is_name_of : Option (List ℕ) → List ℕ → Bool
is_name_of None name = false
is_name_of (Some last) name = bytes_eq last name

-- the last character is no `;`
abbrev pub ends_open : List ℕ → Bool
ends_open [] = true
ends_open (c ∷ []) = not (c == 59)
ends_open (c ∷ d ∷ name) = ends_open (d ∷ name)

-- `=` or an alphanumeric comes first
abbrev pub goes_on : List ℕ → Bool
goes_on [] = false
goes_on (c ∷ text) = c == 61 || is_ascii_alphanumeric c

-- foreign: tree construction's adjusted current node is an element outside the HTML namespace
abbrev pub is_met : Bool → Guard → Machine → List ℕ → List ℕ → Bool
is_met foreign Always m cur rest = true
is_met foreign Appropriate m cur rest = is_name_of m.last_start m.tag.name
is_met foreign IsScript m cur rest = bytes_eq m.buffer (codes "script")
is_met foreign InForeign m cur rest = foreign
is_met foreign InAttribute m cur rest = is_value m.return_state
is_met foreign Historical m cur rest = is_value m.return_state && ends_open cur && goes_on rest

-- the entry that is taken, and what it consumes
pub record Taken : Type 0 where
  pub acts : List Act
  pub goes : Then
  pub current : List ℕ

abbrev pub taken_if : Bool → Option (List ℕ) → Guard → List Act → Then → Machine → List ℕ → Taken → Taken
taken_if foreign None guard acts goes m text other = other
taken_if foreign (Some cur) guard acts goes m text other =
    cond (is_met foreign guard m cur (drop (length cur) text)) (record { acts = acts; goes = goes; current = cur }) other

unfoldable pub taken : Bool → Machine → List ℕ → List Entry → Taken
taken foreign m text [] = record { acts = []; goes = Stop; current = [] }
taken foreign m text (entry on guard acts goes ∷ es) = taken_if foreign (consumed on text) guard acts goes m text (taken foreign m text es)

-- ---- what is done

abbrev pub characters : What → Machine → List ℕ → List ℕ
characters Current m cur = cur
characters Lower m cur = map to_ascii_lowercase cur
characters TheBuffer m cur = m.buffer
characters (These cs) m cur = cs

-- adds to the last attribute, which is the first of the list
abbrev pub with_name : List Attr → List ℕ → List Attr
with_name [] cs = []
with_name (a ∷ attrs) cs = record a { name = a.name ++ cs } ∷ attrs

abbrev pub with_value : List Attr → List ℕ → List Attr
with_value [] cs = []
with_value (a ∷ attrs) cs = record a { value = a.value ++ cs } ∷ attrs

-- behind what is there, if it is not missing
abbrev pub with_more : Option (List ℕ) → List ℕ → Option (List ℕ)
with_more old cs = Some (unwrap_or old [] ++ cs)

abbrev pub added : Place → List ℕ → Machine → Machine
added TheTagName cs m = record m { tag = record m.tag { name = m.tag.name ++ cs } }
added AttrName cs m = record m { tag = record m.tag { attrs = with_name m.tag.attrs cs } }
added AttrValue cs m = record m { tag = record m.tag { attrs = with_value m.tag.attrs cs } }
added Comment cs m = record m { comment = m.comment ++ cs }
added DoctypeName cs m = record m { doctype = record m.doctype { name = with_more m.doctype.name cs } }
added PublicId cs m = record m { doctype = record m.doctype { public_id = with_more m.doctype.public_id cs } }
added SystemId cs m = record m { doctype = record m.doctype { system_id = with_more m.doctype.system_id cs } }
added Buffer cs m = record m { buffer = m.buffer ++ cs }

abbrev pub emptied : Place → Machine → Machine
emptied Buffer m = record m { buffer = [] }
emptied PublicId m = record m { doctype = record m.doctype { public_id = Some [] } }
emptied SystemId m = record m { doctype = record m.doctype { system_id = Some [] } }
emptied _ m = m

-- the name of the last start tag, once the tag is emitted
abbrev pub last_start_of : Tag → Option (List ℕ) → Option (List ℕ)
last_start_of tag old = elim tag.kind [ Starting ↦ Some tag.name | Ending ↦ old ]

abbrev pub digit_of : List ℕ → ℕ → ℕ
digit_of [] less = 0
digit_of (c ∷ cs) less = c - less

abbrev pub no_doctype : Doctype
no_doctype = record { name = None; public_id = None; system_id = None; force_quirks = false }

-- the machine after an act; cur is what the entry consumes
abbrev pub done : List ℕ → Act → Machine → Machine
done cur (Emit what) m = m
done cur EmitTag m = record m { last_start = last_start_of m.tag m.last_start }
done cur EmitComment m = m
done cur EmitDoctype m = m
done cur EmitEndOfFile m = m
done cur (NewTag kind) m = record m { tag = record { kind = kind; name = []; attrs = []; self_closing = false } }
done cur NewAttr m = record m { tag = record m.tag { attrs = record { name = []; value = [] } ∷ m.tag.attrs } }
done cur NewComment m = record m { comment = [] }
done cur NewDoctype m = record m { doctype = no_doctype }
done cur SelfClosing m = record m { tag = record m.tag { self_closing = true } }
done cur ForceQuirks m = record m { doctype = record m.doctype { force_quirks = true } }
done cur (Add place what) m = added place (characters what m cur) m
done cur (SetEmpty place) m = emptied place m
done cur (ReturnTo state) m = record m { return_state = state }
done cur CodeZero m = record m { code = 0 }
done cur (CodeDigit base less) m = record m { code = m.code * base + digit_of cur less }
done cur BufferNumber m = record m { buffer = character_of m.code ∷ [] }
done cur BufferName m = record m { buffer = value_of cur }
done cur Flush m = cond (is_value m.return_state) (added AttrValue m.buffer m) m

-- an attribute whose name an earlier one has is dropped
abbrev pub distinct_behind : List Attr → List Attr → List Attr
distinct_behind before [] = []
distinct_behind before (a ∷ attrs) =
    cond (list_any (λ b. bytes_eq b.name a.name) before) (distinct_behind before attrs) (a ∷ distinct_behind (a ∷ before) attrs)

-- of attributes with one name the first is kept
abbrev pub distinct : List Attr → List Attr
distinct attrs = distinct_behind [] attrs

abbrev pub token_of : Tag → Token
token_of tag = elim tag.kind [ Starting ↦ AStart tag.name (distinct (reverse tag.attrs)) tag.self_closing | Ending ↦ AnEnd tag.name ]

-- the tokens that an act emits, on the machine before it
abbrev pub emitted : List ℕ → Act → Machine → List Token
emitted cur (Emit what) m = map AChar (characters what m cur)
emitted cur EmitTag m = token_of m.tag ∷ []
emitted cur EmitComment m = AComment m.comment ∷ []
emitted cur EmitDoctype m = ADoctype m.doctype ∷ []
emitted cur EmitEndOfFile m = AnEof ∷ []
emitted cur Flush m = cond (is_value m.return_state) [] (map AChar m.buffer)
emitted cur _ m = []

abbrev pub all_done : List ℕ → List Act → Machine → Machine
all_done cur [] m = m
all_done cur (act ∷ acts) m = all_done cur acts (done cur act m)

abbrev pub all_emitted : List ℕ → List Act → Machine → List Token
all_emitted cur [] m = []
all_emitted cur (act ∷ acts) m = emitted cur act m ++ all_emitted cur acts (done cur act m)

-- ---- a step

pub record Step : Type 0 where
  pub machine : Machine
  pub rest : List ℕ
  pub tokens : List Token
  pub stopped : Bool

abbrev pub state_behind : Then → Machine → State
state_behind Stay m = m.state
state_behind (Switch state) m = state
state_behind (Reconsume state) m = state
state_behind SwitchBack m = m.return_state
state_behind ReconsumeBack m = m.return_state
state_behind Stop m = m.state

abbrev pub rest_behind : Then → List ℕ → List ℕ → List ℕ
rest_behind (Reconsume state) cur text = text
rest_behind ReconsumeBack cur text = text
rest_behind _ cur text = drop (length cur) text

abbrev pub stops : Then → Bool
stops Stop = true
stops _ = false

abbrev pub at_state : Machine → State → Machine
at_state m state = record m { state = state }

abbrev pub step_by : Machine → List ℕ → Taken → Step
step_by m text t =
    let after : Machine = all_done t.current t.acts m in
    record {
      machine = at_state after (state_behind t.goes after);
      rest = rest_behind t.goes t.current text;
      tokens =
          all_emitted t.current t.acts m;
      stopped = stops t.goes;
    }

-- a step of the machine at the front of the text that is left; the end of the text is the end of the file
unfoldable pub step : Bool → Machine → List ℕ → Step
unfolding entries taken
step foreign m text = step_by m text (taken foreign m text (entries m.state))

abbrev pub empty_tag : Tag
empty_tag = record { kind = Starting; name = []; attrs = []; self_closing = false }

-- the machine at the beginning of a page, and of a fragment, in whose context the first state is another
abbrev pub start_in : State → Machine
start_in state =
    record
    { state = state; return_state = Data; tag = empty_tag; comment = []; doctype = no_doctype; buffer = []; last_start = None; code = 0 }

abbrev pub start : Machine
start = start_in Data
