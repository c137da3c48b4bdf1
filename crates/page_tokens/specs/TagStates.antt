-- What begins in the states of tags and attributes.
use Rattle.std.specs.Prelude.{◌≡◌, ℕ, ◌<◌, ◌==◌, ◌||◌, Bool, false, List, [], ◌∷◌, length, Option, Result, string_bytes}
use Rattle.page_tokens.specs.Drafts.{FinishesAttr}
use Rattle.page_tokens.specs.Runs.{is_space_of}
use Rattle.page_tokens.specs.Standard.{Follows}
use Rattle.page_tokens.specs.declared.token.TagKind.{TagKind}
use Rattle.page_tokens.specs.declared.token.TokenKind.{TokenKind}
use Rattle.page_tokens.specs.declared.tokenizer.Tokenizer.{Tokenizer}
use Rattle.page_tokens.specs.declared.tokenizer.draft.TagDraft.{TagDraft}
use Rattle.page_tokens.specs.declared.tokenizer.state.AttrState.TheVariants as attr
use Rattle.page_tokens.specs.declared.tokenizer.state.CommentState.TheVariants as comment
use Rattle.page_tokens.specs.declared.tokenizer.state.Quote.{Quote}
use Rattle.page_tokens.specs.declared.tokenizer.state.Quote.TheVariants as quote
use Rattle.page_tokens.specs.declared.tokenizer.state.State.TheVariants as state
use Rattle.page_tokens.specs.declared.tokenizer.state.TagState.TheVariants as tag

-- the quote character
abbrev pub quote_of : Quote → ℕ
quote_of quote.Double = 34
quote_of quote.Single = 39

-- a space, `/` and `>` end the name of an attribute without a value
abbrev pub ends_name_of : ℕ → Bool
ends_name_of c = is_space_of c || c == 47 || c == 62

-- a tag of this kind is being read, whose name is these bytes so far, and nothing else
pub record BeginsTag (old new : Tokenizer) (kind : TagKind) (name : List ℕ) : Type 0 where
  pub only : new ≡ record old { state = state.Tag tag.Name; tag = new.tag }
  pub kind_is : new.tag.kind ≡ kind
  pub name_is : string_bytes new.tag.name ≡ name
  pub attrs : new.tag.attrs.kept.items ≡ []
  pub attr_name : string_bytes new.tag.attr_name ≡ []
  pub attr_value : string_bytes new.tag.attr_value ≡ []
  pub self_closing : new.tag.self_closing ≡ false

-- The attribute that was being read is finished, if there is one, and one begins whose name is these bytes so far.
pub record BeginsAttr (old new : Tokenizer) (name : List ℕ) : Type 0 where
  pub memory : old.refused ≡ false
  pub finished : TagDraft
  pub none : string_bytes old.tag.attr_name ≡ [] → finished ≡ old.tag
  pub some : 0 < length (string_bytes old.tag.attr_name) → FinishesAttr old.tag finished
  pub only : new ≡ record old {
    state = state.Attribute attr.Name;
    tag = record finished { attr_name = new.tag.attr_name };
    errors = new.errors;
    refused =
        new.refused;
  }
  pub name_is : string_bytes new.tag.attr_name ≡ name

-- the character is read as the first one of a bogus comment
abbrev pub BeginsBogus : {E : Type 0} → Tokenizer → Tokenizer → ℕ → Result (Option TokenKind) E → Type 0
BeginsBogus old new c result = (begun : Tokenizer) × (begun ≡ record old { state = state.Comment comment.Bogus; comment = begun.comment })
    × (string_bytes begun.comment ≡ []) × Follows begun new (c ∷ []) result
