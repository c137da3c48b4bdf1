-- What a tokenizer has read so far.
use Rattle.std.specs.Prelude.{◌≡◌, ℕ, ◌≤◌, ◌-◌, false, List, [], ◌++◌, length, Option, None, Result, IfOk, string_bytes}
use Rattle.std.specs.Borrow.{Bor}
use Rattle.page_tokens.specs.declared.tokenizer.Tokenizer.{Tokenizer}
use Rattle.page_tokens.specs.declared.tokenizer.references.Reference.TheVariants.{None as NoReference}
use Rattle.page_tokens.specs.Runs.{IsRun}
use Rattle.page_tokens.specs.declared.tokenizer.state.State.TheVariants.{Data}

-- the characters before the next token, as far as they are read
abbrev pub text_of : Tokenizer → List ℕ
text_of tokens = string_bytes tokens.text

-- The tokenizer is in the data state, not inside a reference, and the last character was not a carriage return.
pub record IsInText (tokens : Tokenizer) : Type 0 where
  pub state : tokens.state ≡ Data
  pub reference : tokens.reference ≡ NoReference
  pub after_return : tokens.after_return ≡ false

-- The text is appended to the characters before the next token, and no other state changes.
pub record AddsText (old new : Tokenizer) (text : List ℕ) : Type 0 where
  pub is : text_of new ≡ text_of old ++ text
  pub state : new.state ≡ old.state
  pub reference : new.reference ≡ old.reference
  pub after_return : new.after_return ≡ old.after_return

-- the text is read as characters, and no token ends in it
abbrev pub ReadsNoToken : {T E : Type 0} → Tokenizer → Tokenizer → List ℕ → Result (Option T) E → Type 0
ReadsNoToken old new text result = IfOk result (λ token. (token ≡ None) × AddsText old new text)

-- the text is read whole as characters
abbrev pub ReadsWhole : {E : Type 0} → Tokenizer → Tokenizer → List ℕ → Result (Bor (List ℕ)) E → Type 0
ReadsWhole old new text result = IfOk result (λ rest. (rest.now ≡ []) × AddsText old new text)

-- In text, and if parse errors are not collected, a run of plain characters is read whole, and the token variable keeps its
-- value.
abbrev pub ReadsRun : {T E : Type 0} → Tokenizer → Tokenizer → List ℕ → Option T → Option T → Result (Bor (List ℕ)) E → Type 0
ReadsRun old new text before after result =
    IsInText old → old.errors ≡ None → IsRun text → IfOk result (λ rest. (rest.now ≡ []) × (after ≡ before) × AddsText old new text)

-- less text is left than the call was given, or none
abbrev pub LeavesLess : {E : Type 0} → List ℕ → Result (Bor (List ℕ)) E → Type 0
LeavesLess text result = IfOk result (λ rest. length rest.now ≤ length text - 1)
