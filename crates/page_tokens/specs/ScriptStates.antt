-- Escaped script data.
use Rattle.std.specs.Prelude.{◌≡◌, ℕ, ◌==◌, ◌||◌, Bool, true, false, cond, ◌++◌, encode_utf8, string_bytes}
use Rattle.std.specs.Char.{is_ascii_alphabetic, to_ascii_lowercase}
use Rattle.page_tokens.specs.Runs.{is_space_of}
use Rattle.page_tokens.specs.declared.tokenizer.Tokenizer.{Tokenizer}
use Rattle.page_tokens.specs.declared.tokenizer.script_data.ScriptStep.{ScriptStep}
use Rattle.page_tokens.specs.declared.tokenizer.script_data.ScriptStep.TheVariants as its
use Rattle.page_tokens.specs.declared.tokenizer.state.DoubleState.{DoubleState}
use Rattle.page_tokens.specs.declared.tokenizer.state.DoubleState.TheVariants as double
use Rattle.page_tokens.specs.declared.tokenizer.state.ScriptState.{ScriptState}
use Rattle.page_tokens.specs.declared.tokenizer.state.ScriptState.TheVariants as script
use Rattle.page_tokens.specs.declared.tokenizer.state.State.{State}
use Rattle.page_tokens.specs.declared.tokenizer.state.State.TheVariants as state

-- ---- escaped script data

abbrev pub escaped : State
escaped = state.ScriptData script.Escaped

abbrev pub doubled : DoubleState → State
doubled inner = state.ScriptData (script.Double inner)

-- a character in escaped script data; the state is the one behind a dash
abbrev pub escaped_step_of : ScriptState → ℕ → ScriptStep
escaped_step_of dash c = cond (c == 45) (its.Text (state.ScriptData dash)) (cond (c == 60) its.LessThan (its.Text escaped))

-- the same where it is escaped twice
abbrev pub doubled_step_of : DoubleState → ℕ → ScriptStep
doubled_step_of dash c =
    cond (c == 45) (its.Text (doubled dash)) (cond (c == 60) (its.Text (doubled double.LessThan)) (its.Text (doubled double.Escaped)))

-- the name of what may be a tag ends
abbrev pub ends_name : ℕ → Bool
ends_name c = c == 47 || c == 62 || is_space_of c

abbrev pub double_step_of : DoubleState → ℕ → ScriptStep
double_step_of double.Escaped c = doubled_step_of double.Dash c
double_step_of double.Dash c = doubled_step_of double.DashDash c
double_step_of double.DashDash c = cond (c == 62) (its.Text state.Script) (doubled_step_of double.DashDash c)
double_step_of double.LessThan c = cond (c == 47) its.Slash (doubled_step_of double.Dash c)
double_step_of double.End c = cond (ends_name c) (its.Named true) (cond (is_ascii_alphabetic c) its.Letter (doubled_step_of double.Dash c))

abbrev pub script_step_of : ScriptState → ℕ → ScriptStep
script_step_of script.EscapeStart c = cond (c == 45) (its.Text (state.ScriptData script.EscapeStartDash)) its.Unescaped
script_step_of script.EscapeStartDash c = cond (c == 45) (its.Text (state.ScriptData script.EscapedDashDash)) its.Unescaped
script_step_of script.Escaped c = escaped_step_of script.EscapedDash c
script_step_of script.EscapedDash c = escaped_step_of script.EscapedDashDash c
script_step_of script.EscapedDashDash c = cond (c == 62) (its.Text state.Script) (escaped_step_of script.EscapedDashDash c)
script_step_of script.DoubleStart c =
    cond (ends_name c) (its.Named false) (cond (is_ascii_alphabetic c) its.Letter (escaped_step_of script.EscapedDash c))
script_step_of (script.Double inner) c = double_step_of inner c

-- behind the name of a start tag or an end tag, which is `script` or another one
abbrev pub behind_name_of : Bool → Bool → State
behind_name_of false true = doubled double.Escaped
behind_name_of false false = escaped
behind_name_of true true = escaped
behind_name_of true false = doubled double.Escaped

-- a letter of that name
pub record AddsLetter (old new : Tokenizer) (c : ℕ) : Type 0 where
  pub only : new ≡ record old { letters = new.letters; text = new.text }
  pub letters : string_bytes new.letters ≡ string_bytes old.letters ++ encode_utf8 (to_ascii_lowercase c)
  pub text : string_bytes new.text ≡ string_bytes old.text ++ encode_utf8 c
