-- The tag that is being read, and the finished tag.
use Rattle.std.specs.Prelude.{◌≡◌, ◌<◌, [], Option, None, Some, length, map, string_bytes}
use Rattle.std.specs.Char.{to_ascii_lowercase}
use Rattle.std.specs.Option.{IsSomeAnd}
use Rattle.page_tokens.specs.Attributes.{AddsAttr}
use Rattle.page_tokens.specs.declared.token.Tag.{Tag}
use Rattle.page_tokens.specs.declared.token.TagKind.{TagKind}
use Rattle.page_tokens.specs.declared.token.TagKind.TheVariants.{Start, End}
use Rattle.page_tokens.specs.declared.tokenizer.Tokenizer.{Tokenizer}
use Rattle.page_tokens.specs.declared.tokenizer.draft.TagDraft.{TagDraft}
use Rattle.page_tokens.specs.declared.tokenizer.state.State.TheVariants.{Data}
use Rattle.page_tokens.specs.Reading.{text_of}

-- The tag is the one that was being read, with the ASCII letters of its name in lower case.
pub record IsTagOf (draft : TagDraft) (tag : Tag) : Type 0 where
  pub kind : tag.kind ≡ draft.kind
  pub name : string_bytes tag.name ≡ map to_ascii_lowercase (string_bytes draft.name)
  pub attrs : tag.attrs.items ≡ draft.attrs.kept.items
  pub self_closing : tag.self_closing ≡ draft.self_closing

-- A tag with a name is being read, none of its attributes is unfinished, and parse errors are not collected.
pub record IsReadyDraft (tokens : Tokenizer) : Type 0 where
  pub named : 0 < length (string_bytes tokens.tag.name)
  pub no_attr : string_bytes tokens.tag.attr_name ≡ []
  pub errors : tokens.errors ≡ None

-- The last tag is the one that was being read, and the tokenizer is in the data state; everything else is unchanged.
pub record IsEmitted (old new : Tokenizer) : Type 0 where
  pub tag : IsSomeAnd new.ended (IsTagOf old.tag)
  pub state : new.state ≡ Data
  pub text : text_of new ≡ text_of old
  pub reference : new.reference ≡ old.reference
  pub after_return : new.after_return ≡ old.after_return
  pub errors : new.errors ≡ old.errors

-- The attribute that was being read is finished: it is one more of the tag, unless the tag has one with its name.
pub record FinishesAttr (old new : TagDraft) : Type 0 where
  pub only : new ≡ record old { attrs = new.attrs; attr_name = new.attr_name; attr_value = new.attr_value }
  pub name : string_bytes new.attr_name ≡ []
  pub value : string_bytes new.attr_value ≡ []
  pub adds : AddsAttr old.attrs.kept.items new.attrs.kept.items (map to_ascii_lowercase (string_bytes old.attr_name))
      (string_bytes old.attr_value)

-- the name of a start tag is kept
abbrev pub NotesKind : TagKind → Tag → Tokenizer → Tokenizer → Type 0
NotesKind Start tag old new = string_bytes new.last_start ≡ string_bytes tag.name
NotesKind End tag old new = new.last_start ≡ old.last_start

abbrev pub NotesStart : Option Tag → Tokenizer → Tokenizer → Type 0
NotesStart None old new = new.last_start ≡ old.last_start
NotesStart (Some tag) old new = NotesKind tag.kind tag old new
