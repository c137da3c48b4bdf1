-- What a character in a doctype does.
use Rattle.std.specs.Prelude.{◌≡◌, ℕ, ◌+◌, ◌==◌, ◌||◌, Bool, true, false, cond, [], ◌++◌, Option, None, Some, String, encode_utf8}
use Rattle.std.specs.Prelude.{string_bytes}
use Rattle.std.specs.Char.{to_ascii_lowercase}
use Rattle.std.specs.Option.{IsSomeAnd}
use Rattle.page_tokens.specs.Comments.{shown_of}
use Rattle.page_tokens.specs.Declarations.{letter_is}
use Rattle.page_tokens.specs.Runs.{is_space_of}
use Rattle.page_tokens.specs.Standard.{keyword_of}
use Rattle.page_tokens.specs.declared.token.Doctype.{Doctype}
use Rattle.page_tokens.specs.declared.tokenizer.Tokenizer.{Tokenizer}
use Rattle.page_tokens.specs.declared.tokenizer.doctypes.DoctypeStep.{DoctypeStep}
use Rattle.page_tokens.specs.declared.tokenizer.doctypes.DoctypeStep.TheVariants as its
use Rattle.page_tokens.specs.declared.tokenizer.state.DoctypeState.{DoctypeState}
use Rattle.page_tokens.specs.declared.tokenizer.state.DoctypeState.TheVariants as doctype
use Rattle.page_tokens.specs.declared.tokenizer.state.Id.{Id}
use Rattle.page_tokens.specs.declared.tokenizer.state.Id.TheVariants as id
use Rattle.page_tokens.specs.declared.tokenizer.state.Quote.{Quote}
use Rattle.page_tokens.specs.declared.tokenizer.state.Quote.TheVariants as quote
use Rattle.page_tokens.specs.declared.tokenizer.state.State.TheVariants as state

-- white space leads to this state, and anything else does this
abbrev pub spaced_of : DoctypeState → ℕ → DoctypeStep → DoctypeStep
spaced_of next c other = cond (is_space_of c) (its.Then next) other

-- `>` ends the doctype, and anything else does this
abbrev pub ends_or_of : Bool → ℕ → DoctypeStep → DoctypeStep
ends_or_of breaks c other = cond (c == 62) (its.Ends breaks) other

-- where an identifier may begin
abbrev pub before_id_of : Id → Bool → ℕ → DoctypeStep
before_id_of which breaks c =
    cond (c == 34) (its.IdBegins which quote.Double)
    (cond (c == 39) (its.IdBegins which quote.Single) (ends_or_of breaks c (its.Malformed true)))

abbrev pub after_name_of : ℕ → DoctypeStep
after_name_of c =
    cond (c == 112 || c == 80) (its.Letter id.Public 1)
    (cond (c == 115 || c == 83) (its.Letter id.System 1) (ends_or_of false c (its.Malformed true)))

abbrev pub keyword_step_of : Id → ℕ → ℕ → DoctypeStep
keyword_step_of which n c =
    cond (letter_is (keyword_of which) n (to_ascii_lowercase c))
    (cond (n == 5) (its.Then (doctype.AfterKeyword which)) (its.Letter which (n + 1)))
    (ends_or_of true c (its.Malformed true))

abbrev pub quoted_step_of : Id → Quote → ℕ → DoctypeStep
quoted_step_of which quote.Double c = cond (c == 34) (its.Then (doctype.AfterId which)) (ends_or_of true c (its.IdLetter which))
quoted_step_of which quote.Single c = cond (c == 39) (its.Then (doctype.AfterId which)) (ends_or_of true c (its.IdLetter which))

abbrev pub doctype_step_of : DoctypeState → ℕ → DoctypeStep
doctype_step_of doctype.Begin c = spaced_of doctype.BeforeName c (ends_or_of true c its.NameBegins)
doctype_step_of doctype.BeforeName c = spaced_of doctype.BeforeName c (ends_or_of true c its.NameBegins)
doctype_step_of doctype.Name c = spaced_of doctype.AfterName c (ends_or_of false c its.NameLetter)
doctype_step_of doctype.AfterName c = spaced_of doctype.AfterName c (after_name_of c)
doctype_step_of (doctype.Keyword which n) c = keyword_step_of which n c
doctype_step_of (doctype.AfterKeyword which) c = spaced_of (doctype.BeforeId which) c (before_id_of which true c)
doctype_step_of (doctype.BeforeId which) c = spaced_of (doctype.BeforeId which) c (before_id_of which true c)
doctype_step_of (doctype.Quoted which mark) c = quoted_step_of which mark c
doctype_step_of (doctype.AfterId id.Public) c = spaced_of doctype.BetweenIds c (before_id_of id.System false c)
doctype_step_of (doctype.AfterId id.System) c = spaced_of (doctype.AfterId id.System) c (ends_or_of false c (its.Malformed false))
doctype_step_of doctype.BetweenIds c = spaced_of doctype.BetweenIds c (before_id_of id.System false c)
doctype_step_of doctype.Bogus c = ends_or_of false c (its.Malformed false)

-- the force-quirks flag is set
abbrev pub broken : Bool → Doctype → Doctype
broken true one = record one { force_quirks = true }
broken false one = one

-- a character is appended to a text; where there is none, it becomes one
abbrev pub AddsTo : {A : Type 0} → Option (String A) → Option (String A) → ℕ → Type 0
AddsTo None new c = IsSomeAnd new (λ text. string_bytes text ≡ encode_utf8 c)
AddsTo (Some old) new c = IsSomeAnd new (λ text. string_bytes text ≡ string_bytes old ++ encode_utf8 c)

-- only a name begins, with this letter
pub record BeginsName (old new : Tokenizer) (c : ℕ) : Type 0 where
  pub only : new ≡ record old {
    state = state.Doctype doctype.Name;
    doctype = record old.doctype { name = new.doctype.name };
    errors = new.errors;
    refused =
        new.refused;
  }
  pub name : IsSomeAnd new.doctype.name (λ text. string_bytes text ≡ encode_utf8 (shown_of (to_ascii_lowercase c)))

-- only the name has one letter more
pub record AddsToName (old new : Tokenizer) (c : ℕ) : Type 0 where
  pub only : new ≡ record old { doctype = record old.doctype { name = new.doctype.name }; errors = new.errors; refused = new.refused }
  pub name : AddsTo old.doctype.name new.doctype.name (shown_of (to_ascii_lowercase c))

-- only an identifier begins, which is empty
abbrev pub BeginsId : Id → Quote → Tokenizer → Tokenizer → Type 0
BeginsId id.Public mark old new =
    (new ≡ record old
    { state = state.Doctype (doctype.Quoted id.Public mark); doctype = record old.doctype { public_id = new.doctype.public_id } })
    × IsSomeAnd new.doctype.public_id (λ text. string_bytes text ≡ [])
BeginsId id.System mark old new =
    (new ≡ record old
    { state = state.Doctype (doctype.Quoted id.System mark); doctype = record old.doctype { system_id = new.doctype.system_id } })
    × IsSomeAnd new.doctype.system_id (λ text. string_bytes text ≡ [])

-- only an identifier has one character more
abbrev pub AddsToId : Id → Tokenizer → Tokenizer → ℕ → Type 0
AddsToId id.Public old new c =
    (new ≡ record old { doctype = record old.doctype { public_id = new.doctype.public_id }; errors = new.errors; refused = new.refused })
    × AddsTo old.doctype.public_id new.doctype.public_id (shown_of c)
AddsToId id.System old new c =
    (new ≡ record old { doctype = record old.doctype { system_id = new.doctype.system_id }; errors = new.errors; refused = new.refused })
    × AddsTo old.doctype.system_id new.doctype.system_id (shown_of c)
