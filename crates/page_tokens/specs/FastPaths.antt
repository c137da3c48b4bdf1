-- The paths on which many characters are read at once: what each reads is what the standard's tokenizer reads one by one.
use Rattle.std.specs.Prelude.{◌≡◌, ℕ, ◌<◌, Bool, true, false, not, ◌==◌, List, [], ◌∷◌, ◌++◌, ◌⊎◌, codes, length, slice_index_or}
use Rattle.std.specs.Prelude.{encode_utf8, Option, None, Some, Result, IfOk, String, string_bytes}
use Rattle.std.specs.Borrow.{Bor}
use Rattle.std.specs.Char.{is_ascii_alphabetic}
use Rattle.std.specs.List.{list_all}
use Rattle.std.specs.Option.{IsSomeAnd}
use Rattle.std.specs.Str.{encode_utf8_all}
use Rattle.page_tokens.specs.Standard.{FollowsStandard}
use Rattle.page_tokens.specs.StandardStates.{may_begin_cdata}
use Rattle.page_tokens.specs.Tags.{opening}
use Rattle.page_tokens.specs.declared.token.TagKind.{TagKind}
use Rattle.page_tokens.specs.declared.token.TokenKind.{TokenKind}
use Rattle.page_tokens.specs.declared.tokenizer.Tokenizer.{Tokenizer}
use Rattle.page_tokens.specs.declared.tokenizer.references.Reference.TheVariants as reference
use Rattle.page_tokens.specs.declared.tokenizer.runs.Run.{Run}
use Rattle.page_tokens.specs.declared.tokenizer.runs.Run.TheVariants as run
use Rattle.page_tokens.specs.declared.tokenizer.state.AttrState.TheVariants as attr
use Rattle.page_tokens.specs.declared.tokenizer.state.Id.{Id}
use Rattle.page_tokens.specs.declared.tokenizer.state.Id.TheVariants as id
use Rattle.page_tokens.specs.declared.tokenizer.state.State.{State}
use Rattle.page_tokens.specs.declared.tokenizer.state.State.TheVariants as state
use Rattle.page_tokens.specs.declared.tokenizer.state.TagState.TheVariants as tag

-- ---- what a run is appended to

abbrev pub AddsToText : Tokenizer → Tokenizer → List ℕ → Type 0
AddsToText old new more = (new ≡ record old { text = new.text }) × (string_bytes new.text ≡ string_bytes old.text ++ more)

abbrev pub AddsToComment : Tokenizer → Tokenizer → List ℕ → Type 0
AddsToComment old new more = (new ≡ record old { comment = new.comment }) × (string_bytes new.comment ≡ string_bytes old.comment ++ more)

abbrev pub AddsToTagName : Tokenizer → Tokenizer → List ℕ → Type 0
AddsToTagName old new more =
    (new ≡ record old { tag = record old.tag { name = new.tag.name } }) × (string_bytes new.tag.name ≡ string_bytes old.tag.name ++ more)

abbrev pub AddsToAttrName : Tokenizer → Tokenizer → List ℕ → Type 0
AddsToAttrName old new more =
    (new ≡ record old { tag = record old.tag { attr_name = new.tag.attr_name } })
    × (string_bytes new.tag.attr_name ≡ string_bytes old.tag.attr_name ++ more)

abbrev pub AddsToValue : Tokenizer → Tokenizer → List ℕ → Type 0
AddsToValue old new more =
    (new ≡ record old { tag = record old.tag { attr_value = new.tag.attr_value } })
    × (string_bytes new.tag.attr_value ≡ string_bytes old.tag.attr_value ++ more)

-- a run is appended to a text; where there is none, it becomes one
abbrev pub Appends : {A : Type 0} → Option (String A) → Option (String A) → List ℕ → Type 0
Appends None new more = IsSomeAnd new (λ text. string_bytes text ≡ more)
Appends (Some old) new more = IsSomeAnd new (λ text. string_bytes text ≡ string_bytes old ++ more)

abbrev pub AppendsToId : Id → Tokenizer → Tokenizer → List ℕ → Type 0
AppendsToId id.Public old new more =
    (new ≡ record old { doctype = record old.doctype { public_id = new.doctype.public_id } })
    × Appends old.doctype.public_id new.doctype.public_id more
AppendsToId id.System old new more =
    (new ≡ record old { doctype = record old.doctype { system_id = new.doctype.system_id } })
    × Appends old.doctype.system_id new.doctype.system_id more

-- the run is appended to what its state collects, and nothing else changes
abbrev pub CopiesRun : Run → Tokenizer → Tokenizer → List ℕ → Type 0
CopiesRun run.Text old new more = AddsToText old new more
CopiesRun run.Raw old new more = AddsToText old new more
CopiesRun run.Plaintext old new more = AddsToText old new more
CopiesRun run.Escaped old new more = AddsToText old new more
CopiesRun run.Comment old new more = AddsToComment old new more
CopiesRun run.BogusComment old new more = AddsToComment old new more
CopiesRun run.TagName old new more = AddsToTagName old new more
CopiesRun run.AttrName old new more = AddsToAttrName old new more
CopiesRun (run.AttrValue mark) old new more = AddsToValue old new more
CopiesRun run.UnquotedValue old new more = AddsToValue old new more
CopiesRun (run.DoctypeId which mark) old new more = AppendsToId which old new more
CopiesRun run.Cdata old new more = AddsToText old new more

-- ---- what is read at once

-- the token ends with the last of the characters; the others are read before
pub record EndsLast (old new : Tokenizer) (read : List ℕ) (kind : TokenKind) : Type 0 where
  pub mid : Tokenizer
  pub front : List ℕ
  pub last : ℕ
  pub is : read ≡ front ++ last ∷ []
  pub outside : mid.reference ≡ reference.None
  pub begins : FollowsStandard old mid front None
  pub ends : FollowsStandard mid new (last ∷ []) (Some kind)

-- the same if one ends
abbrev pub ToldLast : Option TokenKind → Tokenizer → Tokenizer → List ℕ → Type 0
ToldLast None old new read = Unit {0}
ToldLast (Some kind) old new read = EndsLast old new read kind

-- Some characters are read up to `rest`, as the standard reads them one by one. That is done outside of references, not right after a
-- carriage return, and none of the characters is one.
pub record ReadsFront (old new : Tokenizer) (text rest : List ℕ) (told : Option TokenKind) : Type 0 where
  pub outside : old.reference ≡ reference.None
  pub fresh : old.after_return ≡ false
  pub read : List ℕ
  pub some : 0 < length read
  pub cut : text ≡ encode_utf8_all read ++ rest
  pub no_return : list_all (λ c. not (c == 13)) read ≡ true
  pub follows : new.refused ≡ false → FollowsStandard old new read told
  pub last : new.refused ≡ false → ToldLast told old new read

-- nothing is read, or some characters are
abbrev pub ReadsAny : Tokenizer → Tokenizer → List ℕ → List ℕ → Option TokenKind → Type 0
ReadsAny old new text rest told = ((rest ≡ text) × (new ≡ old) × (told ≡ None)) ⊎ ReadsFront old new text rest told

-- what is read is read as the standard reads it
abbrev pub ReadsPlain : {E : Type 0} → Tokenizer → Tokenizer → List ℕ → Option TokenKind → Result (Bor (List ℕ)) E → Type 0
ReadsPlain old new text told result = IfOk result (λ rest. ReadsAny old new text rest.now told)

-- nothing was read, or it stands where no CDATA section may begin
abbrev pub IsApart : Tokenizer → Tokenizer → Type 0
IsApart old new = (new ≡ old) ⊎ (may_begin_cdata new.state ≡ false)

-- not inside a reference, and not right after a carriage return
pub record IsOutside (t : Tokenizer) : Type 0 where
  pub reference : t.reference ≡ reference.None
  pub after_return : t.after_return ≡ false

-- a run is read as the standard reads it, and no token ends
abbrev pub FollowsRun : {E : Type 0} → Tokenizer → Tokenizer → List ℕ → Result (Bor (List ℕ)) E → Type 0
FollowsRun old new text result = IfOk result (λ rest. ReadsAny old new text rest.now None)

-- ---- references

-- a frequent reference has this name and means this character
pub data IsFrequent : List ℕ → ℕ → Type 0 where
  amp : IsFrequent (codes "amp;") 0x26
  gt : IsFrequent (codes "gt;") 0x3e
  lt : IsFrequent (codes "lt;") 0x3c
  quot : IsFrequent (codes "quot;") 0x22
  nbsp : IsFrequent (codes "nbsp;") 0xa0

-- the text begins with such a reference, which means this, and `rest` follows
pub record BeginsFrequent (text meant rest : List ℕ) : Type 0 where
  pub name : List ℕ
  pub c : ℕ
  pub is : IsFrequent name c
  pub cut : text ≡ 38 ∷ name ++ rest
  pub means : meant ≡ encode_utf8 c

-- the bytes are appended to the value of an attribute, or else to the text
abbrev pub PutsMeant : Bool → Tokenizer → Tokenizer → List ℕ → Type 0
PutsMeant true old new meant = AddsToValue old new meant
PutsMeant false old new meant = AddsToText old new meant

-- ---- tags

-- the text begins with a letter
abbrev pub begins_with_letter : List ℕ → Bool
begins_with_letter text = is_ascii_alphabetic (slice_index_or text 0 0)

-- the text is `<` or `</`, a letter, and what follows
pub record BeginsWithTag (text : List ℕ) (kind : TagKind) (named : List ℕ) : Type 0 where
  pub cut : text ≡ opening kind ++ named
  pub letter : begins_with_letter named ≡ true

-- the state after spaces in a tag, outside of quotes
abbrev pub spaced_of : State → Option State
spaced_of (state.Tag tag.Name) = Some (state.Attribute attr.BeforeName)
spaced_of (state.Attribute attr.BeforeName) = Some (state.Attribute attr.BeforeName)
spaced_of (state.Attribute attr.Unquoted) = Some (state.Attribute attr.BeforeName)
spaced_of (state.Attribute attr.AfterQuoted) = Some (state.Attribute attr.BeforeName)
spaced_of (state.Attribute attr.Name) = Some (state.Attribute attr.AfterName)
spaced_of (state.Attribute attr.AfterName) = Some (state.Attribute attr.AfterName)
spaced_of _ = None

-- an attribute's name may begin here
abbrev pub begins_attr_in : State → Bool
begins_attr_in (state.Attribute attr.BeforeName) = true
begins_attr_in (state.Attribute attr.AfterName) = true
begins_attr_in (state.Attribute attr.AfterQuoted) = true
begins_attr_in _ = false

-- a value without quotes is being read
abbrev pub is_unquoted_in : State → Bool
is_unquoted_in (state.Attribute attr.Unquoted) = true
is_unquoted_in _ = false
