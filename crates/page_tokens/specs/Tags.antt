-- Tags without attributes: their text, and the tokens that they become.
use Rattle.std.specs.Prelude.{◌≡◌, ℕ, Bool, true, false, List, [], ◌∷◌, ◌++◌, ◌&&◌, ◌||◌, Option, Some, None, Result, IfOk, string_bytes}
use Rattle.std.specs.Borrow.{Bor}
use Rattle.std.specs.Char.{is_ascii_lowercase, is_ascii_digit}
use Rattle.std.specs.List.{list_all}
use Rattle.std.specs.Option.{IsSomeAnd}
use Rattle.page_tokens.specs.declared.token.Tag.{Tag as TagToken}
use Rattle.page_tokens.specs.declared.token.TagKind.{TagKind}
use Rattle.page_tokens.specs.declared.token.TagKind.TheVariants.{Start, End}
use Rattle.page_tokens.specs.declared.token.Token.{Token}
use Rattle.page_tokens.specs.declared.token.Token.TheVariants.{Tag as TheTag, Comment, Doctype}
use Rattle.page_tokens.specs.declared.token.TokenKind.{TokenKind}
use Rattle.page_tokens.specs.declared.token.TokenKind.TheVariants.{Tag}
use Rattle.page_tokens.specs.declared.tokenizer.Tokenizer.{Tokenizer}
use Rattle.page_tokens.specs.Reading.{IsInText, text_of}

-- an ASCII lower-case letter or digit
abbrev pub is_plain_letter : ℕ → Bool
is_plain_letter b = is_ascii_lowercase b || is_ascii_digit b

-- a tag name of lower-case letters and digits that starts with a letter
abbrev pub is_plain_name : List ℕ → Bool
is_plain_name [] = false
is_plain_name (b ∷ name) = is_ascii_lowercase b && list_all is_plain_letter name

abbrev pub IsPlainName : List ℕ → Type 0
IsPlainName name = is_plain_name name ≡ true

-- the characters before the tag name: `<` or `</`
abbrev pub opening : TagKind → List ℕ
opening Start = 60 ∷ []
opening End = 60 ∷ 47 ∷ []

-- the text `<name>` or `</name>`, followed by `rest`
abbrev pub written_before : TagKind → List ℕ → List ℕ → List ℕ
written_before kind name rest = opening kind ++ name ++ 62 ∷ rest

-- the tag has this kind and this name, no attributes, and is not self-closing
pub record IsBareTag (kind : TagKind) (name : List ℕ) (tag : TagToken) : Type 0 where
  pub kind_is : tag.kind ≡ kind
  pub name_is : string_bytes tag.name ≡ name
  pub attrs : tag.attrs.items ≡ []
  pub self_closing : tag.self_closing ≡ false

-- The last tag is this one. The tokenizer is in text again, and the characters before the tag are unchanged.
pub record EndsTag (kind : TagKind) (name : List ℕ) (old new : Tokenizer) : Type 0 where
  pub tag : IsSomeAnd new.ended (IsBareTag kind name)
  pub in_text : IsInText new
  pub text : text_of new ≡ text_of old
  pub errors : new.errors ≡ old.errors

-- If the tokenizer is in text, collects no parse errors, and the text starts with a tag with a plain name and no attributes, then
-- that tag is the token, and the result is the text after it.
abbrev pub ReadsPlainTag : {E : Type 0} → Tokenizer → Tokenizer → List ℕ → Option TokenKind → Result (Bor (List ℕ)) E → Type 0
ReadsPlainTag old new text token result = IsInText old → old.errors ≡ None → IfOk result (λ left.
    (kind : TagKind) (name rest : List ℕ) → IsPlainName name → text ≡ written_before kind name rest →
    (left.now ≡ rest) × (token ≡ Some Tag) × EndsTag kind name old new)

-- the token is such a tag
abbrev pub IsBareTagToken : TagKind → List ℕ → Token → Type 0
IsBareTagToken kind name (TheTag tag) = IsBareTag kind name tag
IsBareTagToken kind name (Comment comment) = ⊥
IsBareTagToken kind name (Doctype doctype) = ⊥

-- `ReadsPlainTag` for the call that takes the token out of the tokenizer
abbrev pub TakesPlainTag : {E : Type 0} → Tokenizer → Tokenizer → List ℕ → Option Token → Result (Bor (List ℕ)) E → Type 0
TakesPlainTag old new text token result = IsInText old → old.errors ≡ None → IfOk result (λ left.
    (kind : TagKind) (name rest : List ℕ) → IsPlainName name → text ≡ written_before kind name rest →
    (left.now ≡ rest) × IsSomeAnd token (IsBareTagToken kind name) × IsInText new × (text_of new ≡ text_of old))

-- if the token is a tag, the last tag is taken out of the tokenizer and returned
abbrev pub TakesTag : Option TokenKind → Tokenizer → Tokenizer → Option Token → Type 0
TakesTag kind old new token = (tag : TagToken) → kind ≡ Some Tag → old.ended ≡ Some tag → (token ≡ Some (TheTag tag))
    × (new ≡ record old { ended = None })
