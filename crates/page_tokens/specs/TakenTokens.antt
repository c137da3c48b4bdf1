-- The calls that take the token out of the tokenizer.
use Rattle.std.specs.Prelude.{◌≡◌, ℕ, List, Option, None, Some}
use Rattle.page_tokens.specs.PageEnds.{EndsPage}
use Rattle.page_tokens.specs.StandardPages.{ReadsUpTo}
use Rattle.page_tokens.specs.Tags.{TakesTag}
use Rattle.page_tokens.specs.declared.token.Token.{Token}
use Rattle.page_tokens.specs.declared.token.Token.TheVariants as token
use Rattle.page_tokens.specs.declared.token.TokenKind.{TokenKind}
use Rattle.page_tokens.specs.declared.token.TokenKind.TheVariants as kind
use Rattle.page_tokens.specs.declared.tokenizer.Tokenizer.{Tokenizer}

-- if the token is a comment, it is the one that the tokenizer kept
abbrev pub TakesComment : Option TokenKind → Tokenizer → Tokenizer → Option Token → Type 0
TakesComment of old new taken =
    of ≡ Some kind.Comment → (taken ≡ Some (token.Comment old.comment)) × (new ≡ record old { comment = new.comment })

-- the same for a doctype
abbrev pub TakesDoctype : Option TokenKind → Tokenizer → Tokenizer → Option Token → Type 0
TakesDoctype of old new taken =
    of ≡ Some kind.Doctype → (taken ≡ Some (token.Doctype old.doctype)) × (new ≡ record old { doctype = new.doctype })

-- The token is the one that the tokenizer kept. Where no token ended, the one that was there before stays.
pub record Takes (of : Option TokenKind) (kept new : Tokenizer) (before taken : Option Token) : Type 0 where
  pub none : of ≡ None → (taken ≡ before) × (new ≡ kept)
  pub tag : TakesTag of kept new taken
  pub comment : TakesComment of kept new taken
  pub doctype : TakesDoctype of kept new taken

-- The call reads as the standard does, up to the end of a token at most, and takes the token.
pub record TakesUpTo (old new : Tokenizer) (text rest : List ℕ) (before taken : Option Token) : Type 0 where
  pub kept : Tokenizer
  pub of : Option TokenKind
  pub reads : ReadsUpTo old kept text rest None of
  pub takes : Takes of kept new before taken

-- The page ends as the standard says, and the call takes the token that ends with it.
pub record TakesLast (old new : Tokenizer) (taken : Option Token) : Type 0 where
  pub kept : Tokenizer
  pub of : Option TokenKind
  pub ends : EndsPage old kept of
  pub takes : Takes of kept new None taken
