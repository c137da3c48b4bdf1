-- What the tokenizer holds, and what the machine of the HTML Standard's tokenizer (standard_tokens) holds when it has read the same text.
use Rattle.std.specs.Prelude.{◌≡◌, ℕ, ◌<◌, min, Bool, true, false, List, [], ◌∷◌, ◌++◌, ◌⊎◌, map, length, take, reverse, codes, Option}
use Rattle.std.specs.Prelude.{None, Some, Result, IfOk, String, string_bytes}
use Rattle.std.specs.Char.{to_ascii_lowercase}
use Rattle.std.specs.Option.{IsSomeAnd}
use Rattle.std.specs.Str.{encode_utf8_all}
use Rattle.standard_tokens.specs.Entries.{TagKind as StandardKind, Starting, Ending}
use Rattle.standard_tokens.specs.Machine.{Machine, Step, Tag as StandardTag, distinct, last_start_of, step, token_of}
use Rattle.standard_tokens.specs.Tokens.{Attr, Doctype as StandardDoctype, Token as StandardToken, AChar, AComment, ADoctype, AnEof}
use Rattle.page_tokens.specs.declared.attribute.TagAttr.{TagAttr}
use Rattle.page_tokens.specs.declared.token.Doctype.{Doctype}
use Rattle.page_tokens.specs.declared.token.Tag.{Tag}
use Rattle.page_tokens.specs.declared.token.TagKind.{TagKind}
use Rattle.page_tokens.specs.declared.token.TagKind.TheVariants as kind
use Rattle.page_tokens.specs.declared.token.TokenKind.{TokenKind}
use Rattle.page_tokens.specs.declared.token.TokenKind.TheVariants as token
use Rattle.page_tokens.specs.declared.tokenizer.Tokenizer.{Tokenizer}
use Rattle.page_tokens.specs.declared.tokenizer.draft.TagDraft.{TagDraft}
use Rattle.page_tokens.specs.declared.tokenizer.references.Reference.{Reference}
use Rattle.page_tokens.specs.declared.tokenizer.references.Reference.TheVariants as reference
use Rattle.page_tokens.specs.declared.tokenizer.state.AttrState.TheVariants as attr
use Rattle.page_tokens.specs.declared.tokenizer.state.DoctypeState.{DoctypeState}
use Rattle.page_tokens.specs.declared.tokenizer.state.DoctypeState.TheVariants as doctype
use Rattle.page_tokens.specs.declared.tokenizer.state.EndTagState.TheVariants as end_tag
use Rattle.page_tokens.specs.declared.tokenizer.state.Id.{Id}
use Rattle.page_tokens.specs.declared.tokenizer.state.Id.TheVariants as id
use Rattle.page_tokens.specs.declared.tokenizer.state.DoubleState.TheVariants as double
use Rattle.page_tokens.specs.declared.tokenizer.state.ScriptState.TheVariants as script
use Rattle.page_tokens.specs.declared.tokenizer.state.Seen.{Seen}
use Rattle.page_tokens.specs.declared.tokenizer.state.Seen.TheVariants as seen
use Rattle.page_tokens.specs.declared.tokenizer.state.State.{State}
use Rattle.page_tokens.specs.declared.tokenizer.state.State.TheVariants as state
use Rattle.page_tokens.specs.declared.tokenizer.state.TagState.TheVariants as tag
use Rattle.page_tokens.specs.NamedReferences.{after_name, read_of}
use Rattle.page_tokens.specs.Reading.{text_of}
use Rattle.page_tokens.specs.StandardStates.{may_begin_cdata, state_of, state_in}

-- ---- the standard's side

-- The machine goes on from one place in a text to another by steps behind which tree construction switches nothing, and emits these tokens.
-- None of these steps depends on its flag for foreign content.
pub data Goes : Machine → List ℕ → List StandardToken → Machine → List ℕ → Type 0 where
  stays : {m : Machine} {text : List ℕ} → Goes m text [] m text
  steps : {m n : Machine} {text rest : List ℕ} {tokens : List StandardToken} → (s : Step) → ((foreign : Bool) → step foreign m text ≡ s) →
      s.stopped ≡ false → Goes s.machine s.rest tokens n rest → Goes m text (s.tokens ++ tokens) n rest

-- ---- texts

-- a text of the tokenizer, and the same one as characters
abbrev pub Spells : {A : Type 0} → String A → List ℕ → Type 0
Spells text cs = string_bytes text ≡ encode_utf8_all cs

abbrev pub MaySpell : {A : Type 0} → Option (String A) → Option (List ℕ) → Type 0
MaySpell None None = Unit {0}
MaySpell None (Some cs) = ⊥
MaySpell (Some text) None = ⊥
MaySpell (Some text) (Some cs) = Spells text cs

-- the name of the last start tag, in lower case; before the first one it is empty
abbrev pub IsLast : {A : Type 0} → String A → Option (List ℕ) → Type 0
IsLast name None = string_bytes name ≡ []
IsLast name (Some cs) = Spells name cs × (map to_ascii_lowercase (string_bytes name) ≡ string_bytes name)

-- ---- tags and doctypes

abbrev pub kind_of : TagKind → StandardKind
kind_of kind.Start = Starting
kind_of kind.End = Ending

pub record IsAttr (one : TagAttr) (other : Attr) : Type 0 where
  pub name : Spells one.name other.name
  pub value : Spells one.value other.value

abbrev pub AreAttrs : List TagAttr → List Attr → Type 0
AreAttrs [] [] = Unit {0}
AreAttrs [] (other ∷ others) = ⊥
AreAttrs (one ∷ ones) [] = ⊥
AreAttrs (one ∷ ones) (other ∷ others) = IsAttr one other × AreAttrs ones others

pub record IsTag (other : StandardTag) (one : Tag) : Type 0 where
  pub kind : kind_of one.kind ≡ other.kind
  pub name : Spells one.name other.name
  pub attrs : AreAttrs one.attrs.items (distinct (reverse other.attrs))
  pub self_closing : one.self_closing ≡ other.self_closing

-- The standard's attributes stand from the last to the first, each with its repetitions. The tokenizer drops a repetition when it is
-- finished, and one that is being read has a name.
abbrev pub HoldsAttrs : List TagAttr → List ℕ → List ℕ → List Attr → Type 0
HoldsAttrs kept [] value attrs = (value ≡ []) × AreAttrs kept (distinct (reverse attrs))
HoldsAttrs kept (b ∷ name) value [] = ⊥
HoldsAttrs kept (b ∷ name) value (attr ∷ attrs) =
    (map to_ascii_lowercase (b ∷ name) ≡ encode_utf8_all attr.name) × (value ≡ encode_utf8_all attr.value)
    × AreAttrs kept (distinct (reverse attrs))

pub record IsDraft (draft : TagDraft) (other : StandardTag) : Type 0 where
  pub kind : kind_of draft.kind ≡ other.kind
  pub named : 0 < length (string_bytes draft.name)
  pub name : map to_ascii_lowercase (string_bytes draft.name) ≡ encode_utf8_all other.name
  pub attrs : HoldsAttrs draft.attrs.kept.items (string_bytes draft.attr_name) (string_bytes draft.attr_value) other.attrs
  pub self_closing : draft.self_closing ≡ other.self_closing

pub record IsDoctype (one : Doctype) (other : StandardDoctype) : Type 0 where
  pub name : MaySpell one.name other.name
  pub public_id : MaySpell one.public_id other.public_id
  pub system_id : MaySpell one.system_id other.system_id
  pub force_quirks : one.force_quirks ≡ other.force_quirks

pub record IsNoDoctype (one : Doctype) : Type 0 where
  pub name : one.name ≡ None
  pub public_id : one.public_id ≡ None
  pub system_id : one.system_id ≡ None
  pub force_quirks : one.force_quirks ≡ false

-- ---- what was read ahead: the standard looks at several characters at once where the tokenizer takes one after the other

abbrev pub IsSeen : Seen → List ℕ → Type 0
IsSeen seen.Nothing ahead = ahead ≡ []
IsSeen seen.Dash ahead = ahead ≡ codes "-"
IsSeen (seen.Doctype count) ahead = (0 < count) × (count < 7) × (map to_ascii_lowercase ahead ≡ take count (codes "doctype"))
IsSeen (seen.Cdata count) ahead = (0 < count) × (count < 7) × (ahead ≡ take count (codes "[CDATA["))

abbrev pub keyword_of : Id → List ℕ
keyword_of id.Public = codes "public"
keyword_of id.System = codes "system"

abbrev pub IsKeyword : Id → ℕ → List ℕ → Type 0
IsKeyword which count ahead = (0 < count) × (count < 6) × (map to_ascii_lowercase ahead ≡ take count (keyword_of which))

-- ---- what is held, by the state

-- What the tokenizer holds in a doctype; at its beginning, the standard has not made it yet.
abbrev pub DoctypeHeld : DoctypeState → Tokenizer → List ℕ → Machine → Type 0
DoctypeHeld doctype.Begin t ahead m = (ahead ≡ []) × IsNoDoctype t.doctype
DoctypeHeld doctype.BeforeName t ahead m = (ahead ≡ []) × IsNoDoctype t.doctype
DoctypeHeld (doctype.Keyword which count) t ahead m = IsKeyword which count ahead × IsDoctype t.doctype m.doctype
DoctypeHeld _ t ahead m = (ahead ≡ []) × IsDoctype t.doctype m.doctype

-- The standard gathers what may be an end tag in raw text twice: in the tag, and as it is written in the buffer.
abbrev pub EndTagHeld : Tokenizer → Machine → Type 0
EndTagHeld t m = IsDraft t.tag m.tag × Spells t.tag.name m.buffer

-- From the first letter of an attribute to the end of its value, that attribute has a name.
abbrev pub Held : State → Tokenizer → List ℕ → Machine → Type 0
Held (state.Comment inner) t ahead m = (ahead ≡ []) × Spells t.comment m.comment
Held (state.Declaration seen) t ahead m = Spells t.comment ahead × IsSeen seen ahead
Held (state.Doctype inner) t ahead m = DoctypeHeld inner t ahead m
Held (state.Tag tag.Name) t ahead m = (ahead ≡ []) × IsDraft t.tag m.tag
Held (state.Tag tag.SelfClosing) t ahead m = (ahead ≡ []) × IsDraft t.tag m.tag
Held (state.Attribute attr.BeforeName) t ahead m = (ahead ≡ []) × IsDraft t.tag m.tag
Held (state.Attribute attr.AfterQuoted) t ahead m = (ahead ≡ []) × IsDraft t.tag m.tag
Held (state.Attribute inner) t ahead m = (ahead ≡ []) × IsDraft t.tag m.tag × (0 < length (string_bytes t.tag.attr_name))
Held (state.EndTag raw end_tag.Name) t ahead m = (ahead ≡ []) × EndTagHeld t m
Held (state.EndTag raw end_tag.Open) t ahead m = (ahead ≡ []) × (m.buffer ≡ [])
Held (state.ScriptData script.DoubleStart) t ahead m = (ahead ≡ []) × Spells t.letters m.buffer
Held (state.ScriptData (script.Double double.End)) t ahead m = (ahead ≡ []) × Spells t.letters m.buffer
Held _ t ahead m = ahead ≡ []

-- The machine stands where the tokenizer stands, which is in no reference. The tokenizer has read `ahead` of it.
pub record Stands (t : Tokenizer) (ahead : List ℕ) (m : Machine) : Type 0 where
  pub reference : t.reference ≡ reference.None
  pub state : m.state ≡ state_of t.state
  pub last_start : IsLast t.last_start m.last_start
  pub held : Held t.state t ahead m

-- the same in a reference
abbrev pub ReferenceHeld : Reference → Tokenizer → List ℕ → Machine → Type 0
ReferenceHeld reference.None t ahead m = ⊥
ReferenceHeld reference.Begun t ahead m = (ahead ≡ []) × (string_bytes t.written ≡ codes "&")
ReferenceHeld (reference.Named found) t ahead m = (ahead ≡ read_of found.names) × (m.buffer ≡ codes "&")
    × Spells t.written (m.buffer ++ ahead) × Spells t.behind (after_name ahead)
ReferenceHeld reference.Ambiguous t ahead m = ahead ≡ []
ReferenceHeld reference.Number t ahead m = (ahead ≡ []) × Spells t.written m.buffer
ReferenceHeld reference.HexStart t ahead m = (ahead ≡ []) × Spells t.written m.buffer × (m.code ≡ 0)
ReferenceHeld (reference.Hex number) t ahead m = (ahead ≡ []) × (number ≡ min m.code 0x110000)
ReferenceHeld (reference.Decimal number) t ahead m = (ahead ≡ []) × (number ≡ min m.code 0x110000)

-- where a reference may stand: in text, and in the value of an attribute
abbrev pub AllowsReference : State → Type 0
AllowsReference state.Data = Unit {0}
AllowsReference state.Rcdata = Unit {0}
AllowsReference (state.Attribute (attr.Quoted quote)) = Unit {0}
AllowsReference (state.Attribute attr.Unquoted) = Unit {0}
AllowsReference _ = ⊥

pub record StandsInReference (t : Tokenizer) (ahead : List ℕ) (m : Machine) : Type 0 where
  pub state : m.state ≡ state_in t.reference t.state
  pub back : m.return_state ≡ state_of t.state
  pub last_start : IsLast t.last_start m.last_start
  pub place : AllowsReference t.state
  pub outside : Held t.state t [] m
  pub inside : ReferenceHeld t.reference t ahead m

abbrev pub Holds : Tokenizer → List ℕ → Machine → Type 0
Holds t ahead m = Stands t ahead m ⊎ StandsInReference t ahead m

-- ---- what a call reads

-- the token that ends, as the tokenizer keeps it
abbrev pub Told : Option TokenKind → Tokenizer → List StandardToken → Type 0
Told None t tokens = tokens ≡ []
Told (Some token.Comment) t tokens = (text : List ℕ) × (tokens ≡ AComment text ∷ []) × Spells t.comment text
Told (Some token.Doctype) t tokens = (one : StandardDoctype) × (tokens ≡ ADoctype one ∷ []) × IsDoctype t.doctype one
Told (Some token.Tag) t tokens = (one : StandardTag) × (tokens ≡ token_of one ∷ []) × IsSomeAnd t.ended (IsTag one)

-- Behind a call: where the machine stands when it has read the same. It emits the characters that the tokenizer adds to its text, and
-- then the token that ends.
pub record Behind (old new : Tokenizer) (read : List ℕ) (told : Option TokenKind) (m : Machine) (ahead rest : List ℕ) : Type 0 where
  pub machine : Machine
  pub ahead' : List ℕ
  pub characters : List ℕ
  pub tokens : List StandardToken
  pub goes : Goes m (ahead ++ read ++ rest) (map AChar characters ++ tokens) machine (ahead' ++ rest)
  pub holds : Holds new ahead' machine
  pub text : text_of new ≡ text_of old ++ encode_utf8_all characters
  pub ends : Told told new tokens

-- what the call leaves as it was
pub record Leaves (old new : Tokenizer) : Type 0 where
  pub in_foreign : new.in_foreign ≡ old.in_foreign
  pub after_return : new.after_return ≡ old.after_return

-- no memory had run out before, and these are as they were
pub record Keeps (old new : Tokenizer) : Type 0 where
  pub memory : old.refused ≡ false
  pub leaves : Leaves old new

-- Unless memory runs out, the call reads these characters as the standard does, whatever text follows.
abbrev pub Reads : Tokenizer → Tokenizer → List ℕ → Option TokenKind → Type 0
Reads old new read told = (m : Machine) (ahead rest : List ℕ) → Stands old ahead m → Behind old new read told m ahead rest

pub record FollowsStandard (old new : Tokenizer) (read : List ℕ) (told : Option TokenKind) : Type 0 where
  pub memory : old.refused ≡ false
  pub leaves : Leaves old new
  pub reads : Reads old new read told

-- The call reads `read` as the standard does.
abbrev pub Follows : {E : Type 0} → Tokenizer → Tokenizer → List ℕ → Result (Option TokenKind) E → Type 0
Follows old new read result = IfOk result (λ told. new.refused ≡ false → FollowsStandard old new read told)

-- ---- where the flag is asked

-- The machine takes one step here, for which it is asked whether this is foreign content, and emits nothing.
pub record StepsAsked (foreign : Bool) (new : Tokenizer) (m : Machine) (text rest : List ℕ) : Type 0 where
  pub runs : (step foreign m text).stopped ≡ false
  pub tokens : (step foreign m text).tokens ≡ []
  pub rest_is : (step foreign m text).rest ≡ rest
  pub stands : Stands new [] (step foreign m text).machine

-- With this character the tokenizer has read `[CDATA[`, and asks its flag for foreign content.
pub record AsksFlag (old new : Tokenizer) (read : List ℕ) (told : Option TokenKind) : Type 0 where
  pub memory : old.refused ≡ false
  pub told_is : told ≡ None
  pub leaves : Leaves old new
  pub begun : may_begin_cdata old.state ≡ true
  pub text : text_of new ≡ text_of old
  pub steps : (m : Machine) (ahead rest : List ℕ) → Stands old ahead m → StepsAsked old.in_foreign new m (ahead ++ read ++ rest) rest

-- The call reads `read` as the standard does, and may ask the flag.
abbrev pub FollowsAsking : {E : Type 0} → Tokenizer → Tokenizer → List ℕ → Result (Option TokenKind) E → Type 0
FollowsAsking old new read result =
    IfOk result (λ told. new.refused ≡ false → FollowsStandard old new read told ⊎ AsksFlag old new read told)

-- ---- the end of the page

-- Nothing follows: the machine goes to where it stops, and emits the last characters, the token that ends and the end of the file.
pub record Stops (old new : Tokenizer) (told : Option TokenKind) (m : Machine) (ahead : List ℕ) : Type 0 where
  pub machine : Machine
  pub characters : List ℕ
  pub last : List ℕ
  pub tokens : List StandardToken
  pub goes : Goes m ahead (map AChar characters) machine []
  pub stops : (step old.in_foreign machine []).stopped ≡ true
  pub emits : (step old.in_foreign machine []).tokens ≡ map AChar last ++ tokens ++ AnEof ∷ []
  pub text : text_of new ≡ text_of old ++ encode_utf8_all (characters ++ last)
  pub ends : Told told new tokens

abbrev pub StopsAsStandard : Tokenizer → Tokenizer → Option TokenKind → Type 0
StopsAsStandard old new told = (m : Machine) (ahead : List ℕ) → Stands old ahead m → Stops old new told m ahead

-- ---- tags

-- A tag is emitted: the last tag is what the standard emits where its current tag is the one that was being read.
pub record EmitsTag (old new : Tokenizer) (told : Option TokenKind) : Type 0 where
  pub memory : old.refused ≡ false
  pub told_is : told ≡ Some token.Tag
  pub leaves : Leaves old new
  pub now_state : new.state ≡ state.Data
  pub same_reference : new.reference ≡ old.reference
  pub text : text_of new ≡ text_of old
  pub last_tag : (other : StandardTag) → IsDraft old.tag other → IsSomeAnd new.ended (IsTag other)
  pub last_start : (other : StandardTag) → IsDraft old.tag other → (was : Option (List ℕ)) → IsLast old.last_start was →
      IsLast new.last_start (last_start_of other was)
