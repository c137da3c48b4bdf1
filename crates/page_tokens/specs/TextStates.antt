-- Characters outside of tags, and how texts that end at an end tag with the right name are read.
use Rattle.std.specs.Prelude.{◌≡◌, ℕ, ◌==◌, ◌&&◌, Bool, false, not, cond, List, ◌++◌, codes, length, string_bytes}
use Rattle.page_tokens.specs.Reading.{text_of}
use Rattle.page_tokens.specs.StandardStates.{may_begin_cdata}
use Rattle.page_tokens.specs.declared.tokenizer.Tokenizer.{Tokenizer}
use Rattle.page_tokens.specs.declared.tokenizer.references.Reference.TheVariants as reference
use Rattle.page_tokens.specs.declared.tokenizer.state.CdataState.{CdataState}
use Rattle.page_tokens.specs.declared.tokenizer.state.CdataState.TheVariants as cdata
use Rattle.page_tokens.specs.declared.tokenizer.state.Raw.{Raw}
use Rattle.page_tokens.specs.declared.tokenizer.state.Raw.TheVariants as raw
use Rattle.page_tokens.specs.declared.tokenizer.state.ScriptState.TheVariants as script
use Rattle.page_tokens.specs.declared.tokenizer.state.State.{State}
use Rattle.page_tokens.specs.declared.tokenizer.state.State.TheVariants as state
use Rattle.page_tokens.specs.declared.tokenizer.text.CdataStep.{CdataStep}
use Rattle.page_tokens.specs.declared.tokenizer.text.CdataStep.TheVariants as its

-- the text goes on in this state, with these bytes appended
pub record TextGoesOn (old new : Tokenizer) (next : State) (more : List ℕ) : Type 0 where
  pub memory : old.refused ≡ false
  pub only : new ≡ record old { state = next; text = new.text; errors = new.errors; refused = new.refused }
  pub text : string_bytes new.text ≡ string_bytes old.text ++ more

-- a character reference begins at an `&`
pub record BeginsReference (old new : Tokenizer) : Type 0 where
  pub only : new ≡ record old { reference = reference.Begun; written = new.written }
  pub written : string_bytes new.written ≡ codes "&"

-- the state in which such a text is read
abbrev pub raw_state_of : Raw → State
raw_state_of raw.Rcdata = state.Rcdata
raw_state_of raw.Rawtext = state.Rawtext
raw_state_of raw.Script = state.Script
raw_state_of raw.Escaped = state.ScriptData script.Escaped

-- the character is read as it is in RAWTEXT
abbrev pub IsReadRaw : Raw → ℕ → Type 0
IsReadRaw raw.Rcdata c = (38 == c) ≡ false
IsReadRaw raw.Rawtext c = Unit {0}
IsReadRaw raw.Script c = Unit {0}
IsReadRaw raw.Escaped c = ⊥

-- the part of a CDATA section's end that was read
abbrev pub brackets_of : CdataState → List ℕ
brackets_of cdata.Section = codes ""
brackets_of cdata.Bracket = codes "]"
brackets_of cdata.End = codes "]]"

-- what a character in a CDATA section does
abbrev pub cdata_step_of : CdataState → ℕ → CdataStep
cdata_step_of cdata.Section c = cond (c == 93) (its.Then (state.Cdata cdata.Bracket)) its.Text
cdata_step_of cdata.Bracket c = cond (c == 93) (its.Then (state.Cdata cdata.End)) its.Text
cdata_step_of cdata.End c = cond (c == 93) its.Bracket (cond (c == 62) (its.Then state.Data) its.Text)

-- Such a beginning was read behind characters that are still kept.
abbrev pub wants_characters_of : Tokenizer → Bool
wants_characters_of t = may_begin_cdata t.state && not (length (text_of t) == 0)
