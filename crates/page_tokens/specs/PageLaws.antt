-- What the laws say of pages in pieces, and of whole pages.
use Rattle.std.specs.Prelude.{◌≡◌, ℕ, false, List, [], ◌∷◌, ◌++◌, map, Option, None, Some}
use Rattle.std.specs.Str.{encode_utf8_all}
use Rattle.standard_tokens.specs.Machine.{start_in}
use Rattle.standard_tokens.specs.Reading.{Feedback, IsFeedback, ReadsText as ReadsWholeText}
use Rattle.standard_tokens.specs.States.{State as StandardState}
use Rattle.standard_tokens.specs.Tokens.{Token as StandardToken, AChar, AnEof}
use Rattle.page_tokens.specs.PageEnds.{EndsPage}
use Rattle.page_tokens.specs.Reading.{text_of}
use Rattle.page_tokens.specs.Standard.{Holds, Told}
use Rattle.page_tokens.specs.StandardPages.{HasRead, IsAnswering, IsTextState, ReadsText, ReadsUpTo}
use Rattle.page_tokens.specs.StandardStates.{state_of}
use Rattle.page_tokens.specs.TextStates.{wants_characters_of}
use Rattle.page_tokens.specs.declared.token.TokenKind.{TokenKind}
use Rattle.page_tokens.specs.declared.tokenizer.Tokenizer.{Tokenizer}

-- One text in which no token ends, and then another one, are read as one text, where no characters have to be told between them.
abbrev pub PiecesAreOneText : Type 0
PiecesAreOneText = (a b c : Tokenizer) (text more : List ℕ) (told : Option TokenKind) →
    ReadsText a b text None → wants_characters_of b ≡ false → ReadsText b c more told → ReadsText a c (text ++ more) told

-- ---- whole pages: `told` are the tokens that tree construction was given, and `f` its answers

-- where the machine begins, nothing is read
abbrev pub PagesBegin : Type 0
PagesBegin = (f : Feedback) (first : StandardState) (t : Tokenizer) → t.after_return ≡ false → text_of t ≡ [] →
    Holds t [] (start_in first) → HasRead f first [] [] t

-- a text in which no token ends is read behind what was read
abbrev pub TextsAreRead : Type 0
TextsAreRead = (f : Feedback) (first : StandardState) (read more : List ℕ) (told : List StandardToken)
    (old new : Tokenizer) → IsFeedback f → IsAnswering f told old → HasRead f first read told old →
    ReadsText old new more None → HasRead f first (read ++ more) told new

-- the characters were taken out of the tokenizer, and the flag for foreign content may have been set
pub record IsTaken (old new : Tokenizer) : Type 0 where
  pub only : new ≡ record old { text = new.text; in_foreign = new.in_foreign }
  pub empty : text_of new ≡ []

-- these characters are told
abbrev pub CharactersAreTold : Type 0
CharactersAreTold = (f : Feedback) (first : StandardState) (read : List ℕ) (told : List StandardToken)
    (old new : Tokenizer) → HasRead f first read told old → IsTaken old new →
    (characters : List ℕ) → text_of old ≡ encode_utf8_all characters →
    HasRead f first read (told ++ map AChar characters) new

-- parse errors are asked for or taken
abbrev pub ErrorsChangeNothing : Type 0
ErrorsChangeNothing = (f : Feedback) (first : StandardState) (read : List ℕ) (told : List StandardToken)
    (old new : Tokenizer) → HasRead f first read told old → new ≡ record old { errors = new.errors } →
    HasRead f first read told new

-- the state is the one to which tree construction switches, or it stays
abbrev pub IsAnswered : Option StandardState → Tokenizer → Tokenizer → Type 0
IsAnswered None old new = new.state ≡ old.state
IsAnswered (Some state) old new = (state_of new.state ≡ state) × IsTextState new.state

-- the same behind a token, where tree construction may also have switched the state
pub record FeedsBack (answer : Option StandardState) (old new : Tokenizer) : Type 0 where
  pub only : new ≡ record old { state = new.state; text = new.text; in_foreign = new.in_foreign }
  pub empty : text_of new ≡ []
  pub state : IsAnswered answer old new

-- A token ended: the characters before it and the token are told, and then reading goes on.
pub record TellsToken (f : Feedback) (first : StandardState) (read : List ℕ) (told : List StandardToken) (kind : TokenKind)
    (t : Tokenizer) : Type 0 where
  pub token : StandardToken
  pub characters : List ℕ
  pub is : Told (Some kind) t (token ∷ [])
  pub text : text_of t ≡ encode_utf8_all characters
  pub goes_on : (new : Tokenizer) → FeedsBack (f.switch (told ++ map AChar characters ++ token ∷ [])) t new →
      HasRead f first read (told ++ map AChar characters ++ token ∷ []) new

-- a text is read up to the end of a token, in a page that may go on
abbrev pub TokensAreRead : Type 0
TokensAreRead = (f : Feedback) (first : StandardState) (read more : List ℕ) (told : List StandardToken)
    (old new : Tokenizer) (kind : TokenKind) → IsFeedback f → IsAnswering f told old →
    HasRead f first read told old → ReadsText old new more (Some kind) → TellsToken f first (read ++ more) told kind new

-- ---- the same of a call that reads up to the end of a token (`read_kind`)

-- no token ended: some characters of the text were read, up to the rest
abbrev pub CallsReadTexts : Type 0
CallsReadTexts = (f : Feedback) (first : StandardState) (read : List ℕ) (told : List StandardToken)
    (old new : Tokenizer) (text rest : List ℕ) → IsFeedback f → IsAnswering f told old →
    HasRead f first read told old → ReadsUpTo old new text rest None None →
    (more : List ℕ) × (text ≡ encode_utf8_all more ++ rest) × HasRead f first (read ++ more) told new

-- a token ended behind them
abbrev pub CallsReadTokens : Type 0
CallsReadTokens = (f : Feedback) (first : StandardState) (read : List ℕ) (told : List StandardToken)
    (old new : Tokenizer) (text rest : List ℕ) (kind : TokenKind) → IsFeedback f → IsAnswering f told old →
    HasRead f first read told old → ReadsUpTo old new text rest None (Some kind) →
    (more : List ℕ) × (text ≡ encode_utf8_all more ++ rest) × TellsToken f first (read ++ more) told kind new

-- ---- the end

-- The page ended: its tokens are those that were told, the last characters, the last token, if there is one, and the end of the file.
pub record TellsEnd (f : Feedback) (first : StandardState) (read : List ℕ) (told : List StandardToken) (kind : Option TokenKind)
    (t : Tokenizer) : Type 0 where
  pub tokens : List StandardToken
  pub characters : List ℕ
  pub is : Told kind t tokens
  pub text : text_of t ≡ encode_utf8_all characters
  pub whole : ReadsWholeText f first read (told ++ map AChar characters ++ tokens ++ AnEof ∷ [])

-- the page ends behind what was read
abbrev pub PagesEnd : Type 0
PagesEnd = (f : Feedback) (first : StandardState) (read : List ℕ) (told : List StandardToken)
    (old new : Tokenizer) (kind : Option TokenKind) → IsFeedback f → HasRead f first read told old → EndsPage old new kind →
    TellsEnd f first read told kind new
