-- How the calls of the tokenizer read a page, in pieces cut anywhere.
use Rattle.std.specs.Prelude.{◌≡◌, ℕ, ◌==◌, ◌⊎◌, Bool, false, cond, List, [], ◌∷◌, ◌++◌, map, Option, None}
use Rattle.std.specs.Prelude.{Some, Result, IfOk}
use Rattle.std.specs.Borrow.{Bor}
use Rattle.std.specs.Str.{encode_utf8_all}
use Rattle.standard_tokens.specs.Machine.{Machine, Step, at_state, normalized, normalized_behind, start, start_in, step}
use Rattle.standard_tokens.specs.Reading.{Feedback, Reads, reader}
use Rattle.standard_tokens.specs.States.{State as StandardState, Data as DataState}
use Rattle.standard_tokens.specs.Tokens.{Token as StandardToken, AChar}
use Rattle.page_tokens.specs.declared.token.TokenKind.{TokenKind}
use Rattle.page_tokens.specs.declared.tokenizer.Tokenizer.{Tokenizer}
use Rattle.page_tokens.specs.Reading.{text_of}
use Rattle.page_tokens.specs.declared.tokenizer.state.State.{State}
use Rattle.page_tokens.specs.declared.tokenizer.state.State.TheVariants as state
use Rattle.page_tokens.specs.Standard.{AsksFlag, Behind, Holds, Leaves, Stands, Told}
use Rattle.page_tokens.specs.StandardStates.{state_of}
use Rattle.page_tokens.specs.TextStates.{wants_characters_of}

-- ---- a character

-- The call reads these characters as the standard does, in a reference or outside of one.
pub record FollowsAnywhere (old new : Tokenizer) (read : List ℕ) (told : Option TokenKind) : Type 0 where
  pub memory : old.refused ≡ false
  pub leaves : Leaves old new
  pub reads : (m : Machine) (ahead rest : List ℕ) → Holds old ahead m → Behind old new read told m ahead rest

-- it reads on so, unless memory runs out; or it stands where the flag for foreign content is asked
abbrev pub ReadsAnywhere : {E : Type 0} → Tokenizer → Tokenizer → List ℕ → Result (Option TokenKind) E → Type 0
ReadsAnywhere old new read result =
    IfOk result (λ told. new.refused ≡ false → FollowsAnywhere old new read told ⊎ AsksFlag old new read told)

-- a carriage return is a line feed
abbrev pub line_end_of : ℕ → ℕ
line_end_of c = cond (c == 13) 10 c

-- ---- a text

-- The machine goes on by steps that emit characters, behind those that are kept, up to where `all` are kept. Behind those that are kept at
-- a step, tree construction's flag for foreign content is `flag kept`.
pub data Comes (flag : List ℕ → Bool) : List ℕ → Machine → List ℕ → List ℕ → Machine → List ℕ → Type 0 where
  here : {kept : List ℕ} {m : Machine} {text : List ℕ} → Comes flag kept m text kept m text
  next : {kept all : List ℕ} {m n : Machine} {text rest : List ℕ} → (s : Step) (shown : List ℕ) → step (flag kept) m text ≡ s →
      s.stopped ≡ false → s.tokens ≡ map AChar shown → Comes flag (kept ++ shown) s.machine s.rest all n rest →
      Comes flag kept m text all n rest

-- the token is emitted by the last step, which leads to the data state
pub record EmitsLast (flag : List ℕ → Bool) (kept : List ℕ) (m : Machine) (text all : List ℕ) (token : StandardToken) (n : Machine)
    (rest : List ℕ) : Type 0 where
  pub before : Machine
  pub left : List ℕ
  pub comes : Comes flag kept m text all before left
  pub runs : (step (flag all) before left).stopped ≡ false
  pub tokens : (step (flag all) before left).tokens ≡ token ∷ []
  pub machine : (step (flag all) before left).machine ≡ n
  pub rest_is : (step (flag all) before left).rest ≡ rest
  pub leads : n.state ≡ DataState

-- behind the characters a token is emitted by the last step, or there is none
abbrev pub Finishes : (List ℕ → Bool) → List ℕ → Machine → List ℕ → List ℕ → List StandardToken → Machine → List ℕ → Type 0
Finishes flag kept m text all [] n rest = Comes flag kept m text all n rest
Finishes flag kept m text all (token ∷ tokens) n rest = EmitsLast flag kept m text all token n rest

-- Behind a call that reads characters as they stand in the page: a carriage return, with or without a line feed, is one line feed. `kept`
-- are the characters before the next token where the call begins, and `all` those where it ends.
pub record BehindText (flag : List ℕ → Bool) (kept : List ℕ) (old new : Tokenizer) (read : List ℕ) (told : Option TokenKind) (m : Machine)
    (ahead rest : List ℕ) : Type 0 where
  pub machine : Machine
  pub ahead' : List ℕ
  pub all : List ℕ
  pub tokens : List StandardToken
  pub goes : Finishes flag kept m (ahead ++ normalized_behind old.after_return (read ++ rest)) all tokens machine
      (ahead' ++ normalized_behind new.after_return rest)
  pub holds : Holds new ahead' machine
  pub text : text_of new ≡ encode_utf8_all all
  pub ends : Told told new tokens

-- The call reads these characters as the standard does, whatever follows. The tokenizer's flag for foreign content is tree construction's
-- where no characters are kept; behind characters that may be another one.
abbrev pub ReadsAlike : Tokenizer → Tokenizer → List ℕ → Option TokenKind → Type 0
ReadsAlike old new read told =
    (flag : List ℕ → Bool) → flag [] ≡ old.in_foreign → (kept : List ℕ) → text_of old ≡ encode_utf8_all kept →
    (m : Machine) (ahead rest : List ℕ) → Holds old ahead m → BehindText flag kept old new read told m ahead rest

-- It leaves the tokenizer's flag as it was.
pub record ReadsOn (old new : Tokenizer) (read : List ℕ) (told : Option TokenKind) : Type 0 where
  pub memory : old.refused ≡ false
  pub in_foreign : new.in_foreign ≡ old.in_foreign
  pub reads : ReadsAlike old new read told

-- it reads on so, if no characters that were read have to be given to tree construction before
pub record ReadsText (old new : Tokenizer) (read : List ℕ) (told : Option TokenKind) : Type 0 where
  pub memory : old.refused ≡ false
  pub in_foreign : new.in_foreign ≡ old.in_foreign
  pub reads : wants_characters_of old ≡ false → ReadsAlike old new read told

-- the same, unless memory runs out
abbrev pub FollowsText : {E : Type 0} → Tokenizer → Tokenizer → List ℕ → Result (Option TokenKind) E → Type 0
FollowsText old new read result = IfOk result (λ told. new.refused ≡ false → ReadsText old new read told)

-- the kind of the token that ends, or else the kind before
abbrev pub told_or : Option TokenKind → Option TokenKind → Option TokenKind
told_or None before = before
told_or (Some kind) before = Some kind

-- A call reads the text up to the rest. No token ends there but at most one at the end, whose kind is then stored.
pub record UpTo (Reading : List ℕ → Option TokenKind → Type 0) (text rest : List ℕ) (before after : Option TokenKind) : Type 0 where
  pub read : List ℕ
  pub told : Option TokenKind
  pub cut : text ≡ encode_utf8_all read ++ rest
  pub reads : Reading read told
  pub kind : after ≡ told_or told before

abbrev pub ReadsUpTo : Tokenizer → Tokenizer → List ℕ → List ℕ → Option TokenKind → Option TokenKind → Type 0
ReadsUpTo old new text rest before after = UpTo (ReadsText old new) text rest before after

-- the same, unless memory runs out
abbrev pub ReadsAsStandard : {E : Type 0} → Tokenizer → Tokenizer → List ℕ → Option TokenKind → Option TokenKind →
    Result (Bor (List ℕ)) E → Type 0
ReadsAsStandard old new text before after result = IfOk result (λ rest. new.refused ≡ false → ReadsUpTo old new text rest.now before after)

-- The same of a call that itself stops where characters have to be told.
abbrev pub ReadsOnAsStandard : {E : Type 0} → Tokenizer → Tokenizer → List ℕ → Option TokenKind → Option TokenKind →
    Result (Bor (List ℕ)) E → Type 0
ReadsOnAsStandard old new text before after result =
    IfOk result (λ rest. new.refused ≡ false → UpTo (ReadsOn old new) text rest.now before after)

-- ---- between the calls that read

-- the tokenizer stands at the beginning of a page
pub record BeginsPage (t : Tokenizer) : Type 0 where
  pub memory : t.refused ≡ false
  pub after_return : t.after_return ≡ false
  pub in_foreign : t.in_foreign ≡ false
  pub holds : Holds t [] start

-- the machine that stands where the one tokenizer stands stands where the other stands
abbrev pub KeepsPlace : Tokenizer → Tokenizer → Type 0
KeepsPlace old new = (m : Machine) (ahead : List ℕ) → Holds old ahead m → Holds new ahead m

-- the states in which tree construction has the content of an element read
abbrev pub IsTextState : State → Type 0
IsTextState state.Data = Unit {0}
IsTextState state.Rcdata = Unit {0}
IsTextState state.Rawtext = Unit {0}
IsTextState state.Script = Unit {0}
IsTextState state.Plaintext = Unit {0}
IsTextState _ = ⊥

-- behind a token, when tree construction has switched the state of both
abbrev pub Switches : State → Tokenizer → Tokenizer → Type 0
Switches to old new = (m : Machine) → Stands old [] m → Stands new [] (at_state m (state_of to))

-- ---- a page

-- Where reading a page from its beginning has come: whatever follows what was read, the standard's tokenizer comes, with the answers `f` of
-- tree construction, to a machine that holds what this tokenizer holds. `told` are the tokens so far without the characters that the
-- tokenizer still keeps.
pub record IsAt (f : Feedback) (first : StandardState) (read : List ℕ) (told : List StandardToken) (t : Tokenizer) (rest : List ℕ) :
    Type 0 where
  pub machine : Machine
  pub ahead : List ℕ
  pub kept : List ℕ
  pub reads : Reads f (reader (start_in first) (normalized (read ++ rest)) [])
      (reader machine (ahead ++ normalized_behind t.after_return rest) (told ++ map AChar kept))
  pub holds : Holds t ahead machine
  pub text : text_of t ≡ encode_utf8_all kept

abbrev pub HasRead : Feedback → StandardState → List ℕ → List StandardToken → Tokenizer → Type 0
HasRead f first read told t = (rest : List ℕ) → IsAt f first read told t rest

-- The tokenizer's flag for foreign content is tree construction's answer to the tokens so far, and it doesn't have to be told characters
-- before it reads on.
pub record IsAnswering (f : Feedback) (told : List StandardToken) (t : Tokenizer) : Type 0 where
  pub flag : f.in_foreign told ≡ t.in_foreign
  pub wants : wants_characters_of t ≡ false
